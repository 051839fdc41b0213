use Rattle.std.proofs.Common.{◌^◌, ◌-◌}
use Rattle.std.proofs.lemmas.List.{get_or-replicate}
use Rattle.page_bitmap.proofs.Maps.{full_row}
use Rattle.page_bitmap.proofs.bitmap.Bitmap.full.Goals as goal

pub returns : goal.returns
returns c = full_row _ (λ i below. get_or-replicate 8 i (2 ^ 64 - 1) 0 below)
