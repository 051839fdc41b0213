use Rattle.std.proofs.Common.{ℕ, ◌/◌, ◌%◌, arith, ◌∙◌, inl, inr}
use Rattle.std.proofs.lemmas.Bool.{cases_lt}
use Rattle.std.proofs.lemmas.List.{get_or-replicate}
use Rattle.page_bitmap.proofs.Bits.{has_bit-zero}
use Rattle.page_bitmap.proofs.Maps.{has_page-at, has_page-past}
use Rattle.page_bitmap.proofs.bitmap.Bitmap.empty.Goals as goal

pub returns : goal.returns
returns c = λ p. elim (cases_lt p 512) [
  | inl within ↦ has_page-at _ p within ∙ rw (get_or-replicate {A = ℕ} 8 (p / 64) 0 0 (omega arith)) (has_bit-zero (p % 64))
  | inr past ↦ has_page-past _ p past
]
