use Rattle.std.proofs.KnownBytes.{Appends-trans}
use Rattle.std.proofs.lemmas.Result.{on_ok_weaker}
use Rattle.alloc_tool.proofs.Behind.{front_first, front_second}
use Rattle.alloc_tool.proofs.watch.write_seen.Goals as goal

pub returns-in_err-write_report-clause-front : goal.returns-in_err-write_report-clause-front
returns-in_err-write_report-clause-front g c = front_first _ _ _ _ c.in_err-write_report.ensures.front

pub returns-clause-ok : goal.returns-clause-ok
returns-clause-ok g c = on_ok_weaker c.write_sights.result (λ rest. Appends-trans _ _ _ _ _ c.in_ok-write_report.ensures.ok rest) c.write_sights.ensures.ok

pub returns-clause-front : goal.returns-clause-front
returns-clause-front g c = front_second _ _ _ _ _ c.in_ok-write_report.ensures.ok c.write_sights.ensures.front
