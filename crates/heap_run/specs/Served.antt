-- What a worker's log tells of the answers to its processor's events. Events, answers and logs have the newest first.
use Rattle.std.specs.Prelude.{◌≡◌, ◌⊎◌, ℕ, ◌+◌, ◌*◌, ◌<◌, ◌≤◌, List, [], ◌∷◌}
use Rattle.size_classes.specs.Classes.{region_start}
use Rattle.page_bitmap.specs.declared.line.Line.TheVariants.{Take}
use Rattle.page_alloc.specs.Lists.{In}
use Rattle.trace_reader.specs.declared.trace.Event.{Event}
use Rattle.cycle_history.specs.declared.Answer.{Answer}
use Rattle.cycle_history.specs.declared.Answer.TheVariants.{Placed, Zero, Missed}
use Rattle.cycle_history.specs.Needs.{Need, IsNeed}
pub use Rattle.sample_laws.specs.By.{answers_by, events_by}
use Rattle.worker_log.specs.declared.Entry.{Entry}
use Rattle.worker_log.specs.declared.Entry.TheVariants.{Cut}
use Rattle.worker_log.specs.declared.Placing.{Placing}
use Rattle.worker_log.specs.Logs.{Refusal, Taking, placings, refusals, takings}

-- A run of so many pages was taken for a large object's life, as a line tells.
abbrev pub IsTakenFor : List Taking → ℕ → Need → Type 0
IsTakenFor taken number need = (x : Taking) × (cycle : ℕ) × (page : ℕ) × In x taken × (x.number ≡ number) × (x.line ≡ Take cycle page need.pages need.class)

-- For a large object a run of its pages was taken, or a span of its pages was cut out of a block.
abbrev pub IsMadeFor : List Entry → Placing → Need → Type 0
IsMadeFor log a need = IsTakenFor (takings log) a.number need ⊎ In (Cut a.page need.pages need.class) log

-- The entry places the event's object at the address: in a span of its class, and for a large object in one of its own pages.
pub record IsPlacedBy (e : Event) (address : ℕ) (log : List Entry) (a : Placing) : Type 0 where
  pub some : 1 ≤ e.size
  pub need : Need
  pub fits : IsNeed e.size e.scan need
  pub class : need.class ≡ a.class
  pub address_is : address ≡ region_start + 8192 * a.page + need.slot * a.index
  pub large : need.class < 2 → IsMadeFor log a need

-- The entry refuses the event, for want of a run of the pages that its class or its size needs.
pub record IsRefusedBy (e : Event) (line : ℕ) (x : Refusal) : Type 0 where
  pub some : 1 ≤ e.size
  pub need : Need
  pub fits : IsNeed e.size e.scan need
  pub number : x.number ≡ line
  pub pages : x.pages ≡ need.pages
  pub class : x.class ≡ need.class

-- The answers are those to the events: zero for size 0, and else one that the next placing or the next refusal tells.
abbrev pub Tells : List Entry → List Event → List Answer → List Placing → List Refusal → Type 0
Tells log [] [] [] [] = Unit {0}
Tells log [] [] [] (x ∷ refused) = ⊥
Tells log [] [] (a ∷ placed) refused = ⊥
Tells log [] (answer ∷ answers) placed refused = ⊥
Tells log (e ∷ events) [] placed refused = ⊥
Tells log (e ∷ events) (Zero ∷ answers) placed refused = (e.size ≡ 0) × Tells log events answers placed refused
Tells log (e ∷ events) (Placed address ∷ answers) [] refused = ⊥
Tells log (e ∷ events) (Placed address ∷ answers) (a ∷ placed) refused = IsPlacedBy e address log a × Tells log events answers placed refused
Tells log (e ∷ events) (Missed line ∷ answers) placed [] = ⊥
Tells log (e ∷ events) (Missed line ∷ answers) placed (x ∷ refused) = IsRefusedBy e line x × Tells log events answers placed refused

-- So it is with a log of this cycle.
abbrev pub LogTells : List Event → List Answer → List Entry → Type 0
LogTells events answers log = Tells log events answers (placings log) (refusals log)

-- All logs tell of the answers to the events of a cycle, each of those of its own processor.
abbrev pub LogsTellAll : List Event → List Answer → (ℕ → List Entry) → Type 0
LogsTellAll events answers logs = (w : ℕ) → LogTells (events_by w events) (answers_by w events answers) (logs w)
