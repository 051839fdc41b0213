-- What a line says.
use Rattle.std.specs.Prelude.{◌≡◌, ℕ, ◌^◌, ◌<◌, ◌==◌, Bool, List, [], ◌∷◌, ◌&&◌, find, nat_lt, slice_index_or, Option}
use Rattle.std.specs.Str.Parse.{digits_value}
use Rattle.std.specs.List.{AllByRecursion, list_all, slice_split}
use Rattle.std.specs.Str.{bytes_eq}
use Rattle.trace_reader.specs.declared.statement.Statement.{Statement}
use Rattle.trace_reader.specs.declared.statement.Statement.TheVariants.{Title, Heap, Alloc, Gc, Mark, End}
use Rattle.trace_reader.specs.Spelling.{line_for}

-- the numbers of a statement
abbrev pub numbers : Statement → List ℕ
numbers (Title version) = version ∷ []
numbers (Heap h) = h.chunks ∷ h.procs ∷ h.rate ∷ h.seed ∷ h.goal ∷ []
numbers (Alloc e) = e.proc ∷ e.size ∷ e.stack ∷ []
numbers (Gc distance) = distance ∷ []
numbers (Mark lo hi) = lo ∷ hi ∷ []
numbers End = []

-- the line is the statement's, and no number has more than 20 digits
abbrev pub Says : List ℕ → Statement → Type 0
Says line s = (line ≡ line_for s) × AllByRecursion (λ n. n < 10 ^ 20) (numbers s)

-- whether the line is the statement's, and no number has more than 20 digits
abbrev pub says : List ℕ → Statement → Bool
says line s = bytes_eq line (line_for s) && list_all (λ n. nat_lt n (10 ^ 20)) (numbers s)

-- the line's pieces between blanks
abbrev pub words_of : List ℕ → List (List ℕ)
words_of line = slice_split (λ b. b == 32) line

abbrev pub word : List ℕ → ℕ → List ℕ
word line k = slice_index_or (words_of line) k []

-- what the digits of a word are worth
abbrev pub worth : List ℕ → ℕ → ℕ
worth line k = digits_value 10 (word line k)

-- the statement of each kind with the numbers that the line has at their places
abbrev pub heap_reading : List ℕ → Statement
heap_reading line = Heap (record { chunks = worth line 1; procs = worth line 3; rate = worth line 5; seed = worth line 7; goal = worth line 9 })

abbrev pub alloc_reading : List ℕ → Statement
alloc_reading line = Alloc (record { proc = worth line 1; size = worth line 2; scan = bytes_eq (word line 3) (115 ∷ []); stack = worth line 4 })

abbrev pub readings : List ℕ → List Statement
readings line = Title (worth line 1) ∷ heap_reading line ∷ alloc_reading line ∷ Gc (worth line 1) ∷ Mark (worth line 1) (worth line 2) ∷ End ∷ []

-- what a line says, if it has the form of any
unfoldable pub said : List ℕ → Option Statement
said line = find (λ s. says line s) (readings line)
