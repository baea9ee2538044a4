-- What is told and what the room holds are determined by the image and the room.
use mathlib.Core.Path.{◌≡◌, sym, ◌∙◌}
use mathlib.Core.List.{List}
use Prim.Native.Nat.{ℕ}
use Rattle.onetext.specs.Told.{Tells}

pub judge_image_one : (image old : List ℕ) {x y : List ℕ} {m n : ℕ} → Tells image old x m → Tells image old y n → (m ≡ n) × (x ≡ y)
judge_image_one image old s t = (s.count ∙ sym t.count, s.room ∙ sym t.room)
