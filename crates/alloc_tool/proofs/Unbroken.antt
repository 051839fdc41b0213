-- No line of a sound report breaks a rule.
use Rattle.std.proofs.Common.{◌≡◌, ℕ, ◌<◌, List, sym, arith, subst}
use Rattle.trace_reader.specs.declared.trace.Trace.{Trace}
use Rattle.cycle_history.specs.declared.Report.{Report}
use Rattle.cycle_history.specs.Broken.{MeetsRules}
use Rattle.cycle_history.specs.Objects.{Object}
use Rattle.cycle_history.specs.Sound.{IsSound, IsSoundAndUsed}
use Rattle.cycle_history.specs.declared.versions.TheConstants.{TINY_VERSION}
use Rattle.trace_gen.specs.Made.{made_trace}
use Rattle.report_check.proofs.Exact.{first-broken}
use Rattle.report_check.specs.Fault.{BreaksRules, MeetsChecked}

-- a sound report meets the rules up to each
meets_all : (n : ℕ) (t : Trace) (r : Report) (objects : List Object) → IsSound t r objects → MeetsRules n t r
meets_all n t r objects sound = (
  objects,
  record {
    answers = λ _. sound.answers;
    journal = λ _. sound.journal;
    misses = λ _. sound.misses;
    places = λ _. sound.places;
    apart = λ _. sound.apart;
    filling = λ _. sound.filling;
    sweeps = λ _. sound.sweeps;
    totals = λ _. sound.totals;
    profile = λ _. sound.profile;
  },
)

pub sound_unbroken : (t : Trace) (r : Report) (rule line : ℕ) → MeetsChecked t r → BreaksRules t r rule line → ⊥
sound_unbroken t r rule line meets broken = (first-broken t r rule line broken).broken (meets_all rule t r meets.0 meets.1)

pub used_unbroken : (t : Trace) (r : Report) (rule line : ℕ) → IsSoundAndUsed t r → BreaksRules t r rule line → ⊥
used_unbroken t r rule line sound broken = sound_unbroken t r rule line (sound.0, sound.1) broken

-- a made trace has no tiny objects
pub made_plain : (t : Trace) (seed objects : ℕ) → t ≡ made_trace seed objects → t.header.version < TINY_VERSION
made_plain t seed objects made = subst (λ (x : Trace). x.header.version < TINY_VERSION) (sym made) (omega arith)
