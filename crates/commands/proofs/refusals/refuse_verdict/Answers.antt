use Rattle.std.proofs.Common.{[], ◌∷◌, ◌++◌, sym, subst}
use Rattle.commands.specs.declared.stop.Stop.TheVariants.{Verdict as OfVerdict}
use Rattle.commands.specs.declared.stop.Verdict.{Verdict}
use Rattle.commands.specs.Stopped.{stop_text}
use Rattle.commands.specs.Told.{TellsAll}
use Rattle.commands.proofs.refusals.refuse_verdict.Goals as goal

pub returns-in-Broken-clause-told : goal.returns-in-Broken-clause-told
returns-in-Broken-clause-told g c =
    subst (λ (v : Verdict). TellsAll g.E.Sink.held g.E.Sink.faults c.args.errors.now c.refuse_rule.new.errors (stop_text (OfVerdict v) ++ 10 ∷ [])) (sym c.in-Broken.is) c.refuse_rule.ensures.told

pub returns-in-NoMemory-clause-told : goal.returns-in-NoMemory-clause-told
returns-in-NoMemory-clause-told g c =
    subst (λ (v : Verdict). TellsAll g.E.Sink.held g.E.Sink.faults c.args.errors.now c.refuse_trace.new.errors (stop_text (OfVerdict v) ++ 10 ∷ [])) (sym c.in-NoMemory.is) c.refuse_trace.ensures.told
