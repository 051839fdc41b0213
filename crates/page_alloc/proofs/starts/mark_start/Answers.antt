use Rattle.std.proofs.Common.{◌/◌, ◌%◌, arith}
use Rattle.page_alloc.specs.Region.{pages_of_map}
use Rattle.page_alloc.proofs.Walks.{sets-one}
use Rattle.page_alloc.proofs.starts.mark_start.Goals as goal

pub returns : goal.returns
returns c =
    sets-one pages_of_map c.args.starts.now (c.args.page / 512) (c.args.page % 512) 1 c.args.page _ _ c.args.begins (omega arith) (omega arith) (omega arith) c.set_run.ensures
