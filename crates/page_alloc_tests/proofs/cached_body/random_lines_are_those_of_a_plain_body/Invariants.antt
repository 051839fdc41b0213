use Rattle.std.proofs.Common.{◌≡◌}
use Rattle.report_check.specs.Replays.{IsReplay, region_in}
use Rattle.page_alloc_tests.proofs.cached_body.random_lines_are_those_of_a_plain_body.Given as goal

abbrev pub invariant-loop : goal.invariant-loop
invariant-loop g l = record { sound : IsReplay l.replay; region : region_in l.replay ≡ 1536 }
