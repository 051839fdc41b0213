-- What a call leaves, in the words of the calls beside this crate.
use Rattle.std.proofs.Common.{◌≡◌, ℕ, List, [], ◌∷◌, ◌++◌, map, reverse, refl, ap, sym, ◌∙◌}
use Rattle.std.proofs.lemmas.List.{append-nil, map-append, reverse-append}
use Rattle.span_state.specs.declared.sweep.SweepNote.{SweepNote}
use Rattle.sweep_laws.specs.Counts.{times}
use Rattle.worker_log.specs.declared.Entry.{Entry}
use Rattle.worker_log.specs.declared.Entry.TheVariants.{Looked, LookedEmptyCell, Popped, Pushed, Swept, Took, Missed, Gave, Allocated, Found, Read, Added, Pulled, NoPage, Cut as CutEntry, NoCut, Settled}
use Rattle.worker_log.specs.Logs.{sweepings}
use Rattle.span_laws.specs.TakeAnswers.{cycle_at}
use Rattle.span_laws.specs.Calls.{Keeps, notes_of as notes_in}
use Rattle.span_laws.specs.Views.{Seen}
use Rattle.sweeper.specs.Work.{Stays, note_by, notes_of}

-- what the worker has is kept
pub keeps_of : (old new : Seen) → Stays old new → new.view.own.popped ≡ old.view.own.popped → Keeps old new
keeps_of old new s popped = record {
  away = s.away;
  table = s.table;
  number = s.number;
  view = λ i. record { region = s.region i; goal = s.goal i; procs = s.procs i; generation = s.generation i; marks = s.marks i; before = s.before i; carried = s.carried i; own = new.view.own; parts = s.parts i };
  cached = s.cached;
  fresh = s.fresh;
  claimed = s.claimed;
  reset = s.reset;
  sweeping = λ q. ap (times q) s.sweeping;
  popped = λ q. ap (times q) popped;
  bodies = s.bodies;
}

-- the notes of a log are those of its sweeps
pub notes-same : (g : ℕ) (said : List Entry) → notes_of (cycle_at g) said ≡ notes_in g said
notes-same g [] = refl
notes-same g (Swept s ∷ said) = ap (map (note_by (cycle_at g))) (reverse-append (s ∷ []) (sweepings said)) ∙ map-append (note_by (cycle_at g)) (reverse (sweepings said)) (s ∷ [])
    ∙ ap (λ (l : List SweepNote). l ++ note_by (cycle_at g) s ∷ []) (notes-same g said)
notes-same g (Allocated a ∷ said) = notes-same g said ∙ sym (append-nil (notes_in g said))
notes-same g (Missed m line ∷ said) = notes-same g said ∙ sym (append-nil (notes_in g said))
notes-same g (Looked s h t ∷ said) = notes-same g said ∙ sym (append-nil (notes_in g said))
notes-same g (LookedEmptyCell s i ∷ said) = notes-same g said ∙ sym (append-nil (notes_in g said))
notes-same g (Pulled number line ∷ said) = notes-same g said ∙ sym (append-nil (notes_in g said))
notes-same g (NoPage ∷ said) = notes-same g said ∙ sym (append-nil (notes_in g said))
notes-same g (CutEntry page pages class ∷ said) = notes-same g said ∙ sym (append-nil (notes_in g said))
notes-same g (NoCut pages left ∷ said) = notes-same g said ∙ sym (append-nil (notes_in g said))
notes-same g (Settled number ∷ said) = notes-same g said ∙ sym (append-nil (notes_in g said))
notes-same g (Popped s p ∷ said) = notes-same g said ∙ sym (append-nil (notes_in g said))
notes-same g (Pushed s p ∷ said) = notes-same g said ∙ sym (append-nil (notes_in g said))
notes-same g (Took m line ∷ said) = notes-same g said ∙ sym (append-nil (notes_in g said))
notes-same g (Gave p m ∷ said) = notes-same g said ∙ sym (append-nil (notes_in g said))
notes-same g (Found p w ∷ said) = notes-same g said ∙ sym (append-nil (notes_in g said))
notes-same g (Read w v ∷ said) = notes-same g said ∙ sym (append-nil (notes_in g said))
notes-same g (Added w v ∷ said) = notes-same g said ∙ sym (append-nil (notes_in g said))
