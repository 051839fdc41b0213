use Rattle.std.proofs.Common.{refl}
use Rattle.page_bitmap.specs.declared.line.Line.TheVariants.{Miss, Scav}
use Rattle.run_laws.proofs.BlockPulls.{line_blocks}
use Rattle.run_laws.proofs.a_line_keeps_what_logs_tell_of_blocks.Goals as goal

pub returns-clause-missed : goal.returns-clause-missed
returns-clause-missed s = λ c e pages class now. line_blocks c e now (Miss e.cycle pages class) (λ w. refl) (λ p. refl) (λ p. refl) refl

pub returns-clause-scavenged : goal.returns-clause-scavenged
returns-clause-scavenged s = λ c e page pages now. line_blocks c e now (Scav e.cycle page pages) (λ w. refl) (λ p. refl) (λ p. refl) refl
