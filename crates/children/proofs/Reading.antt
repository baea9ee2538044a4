-- Records read one by one from a list of them.
use mathlib.Core.Path.{◌≡◌, ap, ◌∙◌}
use mathlib.Core.Bool.{true}
use mathlib.Core.List.{List}
use Prim.Native.Nat.{ℕ, ◌+◌, ◌-◌, ◌*◌, ◌<◌, ◌≤◌}
use native.Mathlib.Omega.{arith}
use lib.ListN.{length, take, drop}
use Rattle.moves.specs.Record.{possible}
use Rattle.candidates.specs.Inner.{Records}
use Rattle.candidates.proofs.Listing.{record_part}

module _ (list : List ℕ) (k : ℕ) {n : ℕ} (r : Records list n) (h : k < n) where
  pub read_fits : k * 5 + 5 ≤ length list
  read_fits = let f = r.fits in omega arith

  pub read_possible : possible (take (k * 5 + 5 - k * 5) (drop (k * 5) list)) ≡ true
  read_possible = ap possible (record_part list k) ∙ r.each k h
