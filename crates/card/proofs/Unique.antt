-- The answers of this crate allow one result only.
use mathlib.Core.Path.{◌≡◌}
use Prim.Native.Nat.{ℕ}
use Rattle.std.specs.Prelude.{Option}
use Rattle.base.specs.Answer.{given_or}
use Rattle.base.proofs.Unique.{given_once}
use Rattle.card.specs.Suit.{suit_asked}
use Rattle.card.specs.Card.{card_asked, code_asked}
use Rattle.card.specs.declared.Suit.{Suit}
use Rattle.card.specs.declared.Card.{Card}

pub from_u8_once : (v : ℕ) {r s : Option Suit} → given_or 30 r ≡ suit_asked v → given_or 30 s ≡ suit_asked v → r ≡ s
from_u8_once v = given_once 30

pub decode_once : (x : ℕ) {r s : Option Card} → given_or 30 r ≡ card_asked x → given_or 30 s ≡ card_asked x → r ≡ s
decode_once x = given_once 30

pub encode_once : (c : Card) {r s : Option ℕ} → given_or 30 r ≡ code_asked c → given_or 30 s ≡ code_asked c → r ≡ s
encode_once c = given_once 30
