-- What `add` says and leaves, refusal by refusal.
use Rattle.std.specs.Prelude.{Err, Ok}
use mathlib.Core.Path.{◌≡◌, refl, sym, ◌∙◌}
use mathlib.Core.Bool.{Bool, true, false}
use mathlib.Core.List.{List}
use Prim.Native.Nat.{ℕ}
use lib.ListN.{length}
use Rattle.board.specs.declared.Refusal.TheVariants.{WrongSheet, OtherSettings, CommonDeal}
use Rattle.sheets.specs.Good.{good_sheet}
use Rattle.sheets.specs.Adding.{same_settings, apart, added, add_asked}
use Rattle.sheets.specs.Promises.{Addable, Adds}
use Rattle.sheets.proofs.Goodness.{good_is}

pub good_words : (a : List ℕ) (t : Bool) → t ≡ good_sheet a → t ≡ true → length a ≡ 716
good_words a t e v = (good_is a (sym e ∙ v)).long

module _ (a b : List ℕ) (t : Bool) (e : t ≡ good_sheet a) where
  pub says_first : t ≡ false → Adds a b a (Err WrongSheet)
  unfolding add_asked
  says_first v = let g : good_sheet a ≡ false = sym e ∙ v in record { said = sym (rw g refl); left = sym (rw g refl) }

  module _ (v : t ≡ true) (u : Bool) (f : u ≡ good_sheet b) where
    ga : good_sheet a ≡ true
    ga = sym e ∙ v

    pub says_second : u ≡ false → Adds a b a (Err WrongSheet)
    unfolding add_asked
    says_second w = let g : good_sheet b ≡ false = sym f ∙ w in record { said = sym (rw (ga, g) refl); left = sym (rw (ga, g) refl) }

    module _ (w : u ≡ true) (x : Bool) (p : x ≡ same_settings a b) where
      gb : good_sheet b ≡ true
      gb = sym f ∙ w

      pub says_settings : x ≡ false → Adds a b a (Err OtherSettings)
      unfolding add_asked
      says_settings z =
          let g : same_settings a b ≡ false = sym p ∙ z in
          record { said = sym (rw (ga, gb, g) refl); left = sym (rw (ga, gb, g) refl) }

      module _ (z : x ≡ true) (y : Bool) (q : y ≡ apart a b) where
        same : same_settings a b ≡ true
        same = sym p ∙ z

        pub says_common : y ≡ false → Adds a b a (Err CommonDeal)
        unfolding add_asked
        says_common d =
            let g : apart a b ≡ false = sym q ∙ d in
            record { said = sym (rw (ga, gb, same, g) refl); left = sym (rw (ga, gb, same, g) refl) }

        module _ (d : y ≡ true) where
          pub addable : Addable a b
          addable = record { one = ga; other = gb; same = same; free = sym q ∙ d }

          pub says_sum : (X : List ℕ) → X ≡ added a b → Adds a b X (Ok tt)
          unfolding add_asked
          says_sum X s =
              let g : apart a b ≡ true = sym q ∙ d in
              record { said = sym (rw (ga, gb, same, g) refl); left = s ∙ sym (rw (ga, gb, same, g) refl) }
