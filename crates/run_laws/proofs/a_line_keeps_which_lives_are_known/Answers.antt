use Rattle.std.proofs.Common.{refl}
use Rattle.page_bitmap.specs.declared.line.Line.TheVariants.{Miss, Scav}
use Rattle.run_laws.proofs.Known.{quiet_line_knows}
use Rattle.run_laws.proofs.a_line_keeps_which_lives_are_known.Goals as goal

pub returns-clause-missed : goal.returns-clause-missed
returns-clause-missed s = λ e pages class now. quiet_line_knows e now (Miss e.cycle pages class) refl (λ v. refl) refl

pub returns-clause-scavenged : goal.returns-clause-scavenged
returns-clause-scavenged s = λ e page pages now. quiet_line_knows e now (Scav e.cycle page pages) refl (λ v. refl) refl
