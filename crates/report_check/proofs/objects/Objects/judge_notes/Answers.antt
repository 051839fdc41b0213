use Rattle.std.specs.Prelude.{IfSome, MatchOption}
use Rattle.std.proofs.Common.{◌≡◌, ◌≢◌, ℕ, ◌^◌, ◌<◌, Option, None, Some, refl, sym, subst}
use Rattle.cycle_history.specs.Requests.{last_cycle, marked_by}
use Rattle.report_check.specs.Lines.{IsLeast}
use Rattle.report_check.specs.Closing.{BreaksSweeps}
use Rattle.report_check.specs.Items.{objects_of}
use Rattle.report_check.proofs.Righting.{sweep-fault}
use Rattle.report_check.proofs.objects.Objects.judge_notes.Goals as goal

of-none : (o : Option ℕ) (P : Type 0) (Q : ℕ → Type 0) → ((x : ℕ) → o ≢ Some x) → MatchOption o P Q → P
of-none None P Q off m = m
of-none (Some x) P Q off m = absurd (off x refl)

of-some : (o : Option ℕ) (x : ℕ) (P : Type 0) (Q : ℕ → Type 0) → o ≡ Some x → MatchOption o P Q → Q x
of-some None x P Q e m = cc
of-some (Some y) x P Q e m = (let f : y ≡ x = cc in subst Q f m)

of-some-if : (o : Option ℕ) (x : ℕ) → o ≡ Some x → IfSome o (λ p. p < 2 ^ 62) → x < 2 ^ 62
of-some-if None x e m = cc
of-some-if (Some y) x e m = (let f : y ≡ x = cc in subst (λ (k : ℕ). k < 2 ^ 62) f m)

pub sweep_at-line-requires : goal.sweep_at-line-requires
sweep_at-line-requires c = record { place = of-some-if c.in_ok-place.field-0 c.in-Some.place c.in-Some.is c.in_ok-place.ensures.few }

pub returns-in-Some-clause-fault : goal.returns-in-Some-clause-fault
returns-in-Some-clause-fault c gives =
    let is = of-some c.in_ok-place.field-0 c.in-Some.place _ _ c.in-Some.is c.in_ok-place.ensures.wrong in (
      refl,
      subst (λ (k : ℕ). IsLeast (BreaksSweeps (marked_by c.args.self.now.trace.now) (last_cycle c.args.self.now.trace.now) c.args.self.now.report.now (objects_of c.args.self.now.items.now)) k) (sym c.sweep_at-line.ensures)
          (sweep-fault c.args.self.now.trace.now c.args.self.now.report.now (objects_of c.args.self.now.items.now) c.in-Some.place gives is),
    )

pub returns-clause-right : goal.returns-clause-right
returns-clause-right c = of-none c.in_ok-place.field-0 _ _ c.in_default.not-Some c.in_ok-place.ensures.wrong
