-- A Miss line of a run's journal stands where no run was free.
use Rattle.std.proofs.Common.{inl, inr, ℕ, List, [], ◌∷◌, ap, subst}
use Rattle.page_bitmap.specs.declared.line.Line.{Line}
use Rattle.page_bitmap.specs.declared.line.Line.TheVariants.{Miss}
use Rattle.page_alloc.specs.Journal.{MayFollowFor}
use Rattle.page_alloc.specs.Lists.{IsNumber}
use Rattle.sound_run.specs.Run.{IsJournal}
use Rattle.worker_log.specs.Logs.{Refusal}
use Rattle.run_laws_tests.specs.Refusals.{IsMissOf}

module _ (region goal cycle : ℕ) (x : Refusal) where
  pub miss_of : (past : List Line) → IsJournal region goal past → IsNumber x.number (Miss cycle x.pages x.class) past → IsMissOf region past cycle x
  miss_of [] legal at = absurd at
  miss_of (line ∷ past) legal (inl here) = record {
    later = [];
    before = past;
    line = ap (λ (l : Line). l ∷ past) here.1;
    number = here.0;
    full = (subst (MayFollowFor 64 region goal past) here.1 legal.0).1;
  }
  miss_of (line ∷ past) legal (inr older) = let f = miss_of past legal.2 older in record {
    later = line ∷ f.later;
    before = f.before;
    line = ap (λ (l : List Line). line ∷ l) f.line;
    number = f.number;
    full = f.full;
  }
