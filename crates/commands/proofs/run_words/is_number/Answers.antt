use Rattle.std.proofs.Common.{refl, true≢false, sym, arith}
use Rattle.commands.proofs.RunForms.{no_digit}
use Rattle.commands.proofs.run_words.is_number.Goals as goal

pub returns-in_default : goal.returns-in_default
returns-in_default c = (
  λ yes. absurd (true≢false (sym yes)),
  λ is. absurd (no_digit c.args.word.now c.in_default.not-text c.in_default.not-text-2 c.in_default.not-text-3 c.in_default.not-text-4 c.in_default.not-text-5 is),
)

pub returns-in-text : goal.returns-in-text
returns-in-text c = (λ _. (0, omega arith, c.in-text.is-text), λ _. refl)

pub returns-in-text-2 : goal.returns-in-text-2
returns-in-text-2 c = (λ _. (1, omega arith, c.in-text.is-text-2), λ _. refl)

pub returns-in-text-3 : goal.returns-in-text-3
returns-in-text-3 c = (λ _. (2, omega arith, c.in-text.is-text-3), λ _. refl)

pub returns-in-text-4 : goal.returns-in-text-4
returns-in-text-4 c = (λ _. (3, omega arith, c.in-text.is-text-4), λ _. refl)

pub returns-in-text-5 : goal.returns-in-text-5
returns-in-text-5 c = (λ _. (4, omega arith, c.in-text.is-text-5), λ _. refl)
