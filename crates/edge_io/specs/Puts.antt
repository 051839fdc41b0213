-- What putting text behind an output's waiting bytes leaves.
use Rattle.std.specs.Prelude.{◌≡◌, ℕ, List, ◌++◌, Option}
use Rattle.edge_io.specs.declared.output.Output.{Output}
use Rattle.edge_io.specs.Front.{Sends}
use Rattle.edge_io.specs.Output.{sink_of, waiting_of}

-- The text was put behind what waited, and a front of both may have been sent.
abbrev pub Puts : Option (List ℕ) → Option (List ℕ) → List ℕ → List ℕ → List ℕ → Type 0
Puts old new waited waits text = Sends old new waits (waited ++ text)

-- A front of the text was put so.
abbrev pub PutsFront : Option (List ℕ) → Option (List ℕ) → List ℕ → List ℕ → List ℕ → Type 0
PutsFront old new waited waits text = (front : List ℕ) × (rest : List ℕ) × (text ≡ front ++ rest) × Puts old new waited waits front

-- The same of an output, whose sink holds what `held` tells.
abbrev pub OutputPuts : {K : Type 0} → (K → Option (List ℕ)) → Output K → Output K → List ℕ → Type 0
OutputPuts held old new text = Puts (held (sink_of old)) (held (sink_of new)) (waiting_of old) (waiting_of new) text

abbrev pub OutputPutsFront : {K : Type 0} → (K → Option (List ℕ)) → Output K → Output K → List ℕ → Type 0
OutputPutsFront held old new text = PutsFront (held (sink_of old)) (held (sink_of new)) (waiting_of old) (waiting_of new) text
