-- The rules that a report meets, by the numbers under which they are tried.
use Rattle.std.specs.Prelude.{◌≡◌, ℕ, ◌<◌, ◌≤◌, true, List, [], ◌∷◌, length, ◌≢◌, ◌↔◌}
use Rattle.page_bitmap.specs.declared.line.Line.{Line}
use Rattle.page_bitmap.specs.declared.line.Line.TheVariants.{Miss}
use Rattle.page_alloc.specs.Lists.{In, IsNumber}
use Rattle.page_alloc.specs.Lives.{Life}
use Rattle.cycle_history.specs.declared.Answer.TheVariants.{Zero, Missed}
use Rattle.cycle_history.specs.Needs.{IsNeed}
use Rattle.cycle_history.specs.Requests.{Request, Marking}
use Rattle.cycle_history.specs.Objects.{Object, is_placed, live, IsSeated, IsApart, IsHeld}

-- Rule 1, answers. An object is that of request number n where it has the request's numbers and need, and its answer
-- is zero exactly where the size is 0.
pub record IsObject (r : Request) (n : ℕ) (o : Object) : Type 0 where
  pub id : o.id ≡ n
  pub proc : o.proc ≡ r.event.proc
  pub cycle : o.cycle ≡ r.cycle
  pub zero : (o.answer ≡ Zero) ↔ (r.event.size ≡ 0)
  pub need : 1 ≤ r.event.size → IsNeed r.event.size r.event.scan o.need

-- There is one object for each request, both with the newest first.
abbrev pub AreAnswered : List Request → List Object → Type 0
AreAnswered [] [] = Unit {0}
AreAnswered [] (o ∷ objects) = ⊥
AreAnswered (r ∷ requests) [] = ⊥
AreAnswered (r ∷ requests) (o ∷ objects) = IsObject r (length requests) o × AreAnswered requests objects

-- Rule 3, misses. A missed object names a Miss line of its pages, its span class and its cycle.
abbrev pub NamesMiss : List Line → Object → Type 0
NamesMiss past o = (line : ℕ) → o.answer ≡ Missed line → IsNumber line (Miss o.cycle o.need.pages o.need.class) past

-- Each missed object names such a line, and no two name the same one.
pub record AreMissed (past : List Line) (objects : List Object) : Type 0 where
  pub named : (o : Object) → In o objects → NamesMiss past o
  pub once : (a b : Object) (line : ℕ) → In a objects → In b objects → a.answer ≡ Missed line → b.answer ≡ Missed line → a.id ≡ b.id

-- Rule 4, places. Each placed object is seated in a life.
abbrev pub AreSeated : Marking → List Line → List Object → Type 0
AreSeated marked past objects = (o : Object) → In o objects → is_placed o.answer ≡ true → (life : Life) × IsSeated marked past o life

-- Rule 5, apart. In each cycle the objects that live are apart.
abbrev pub AreApart : Marking → List Object → Type 0
AreApart marked objects = (c : ℕ) (a b : Object) → In a objects → In b objects → a.id ≢ b.id → live marked c a ≡ true → live marked c b ≡ true → IsApart a b

-- An object is small where it is placed in a span of a size class above 0.
abbrev pub IsSmall : Object → Type 0
IsSmall o = (is_placed o.answer ≡ true) × (2 ≤ o.need.class)

-- Rule 6, filling. In one cycle a life gets small objects of one processor, each index below such an object's is
-- held when it comes, and all indices of a life are held when its processor goes on to another life of the class.
pub record AreFilled (marked : Marking) (objects : List Object) : Type 0 where
  pub one_processor : (a b : Object) → In a objects → In b objects → IsSmall a → IsSmall b → a.cycle ≡ b.cycle → a.life ≡ b.life → a.proc ≡ b.proc
  pub no_gap : (o : Object) → In o objects → IsSmall o → (j : ℕ) → j < o.index → IsHeld marked objects o.cycle o.id o.life j
  pub full_first : (a b : Object) → In a objects → In b objects → IsSmall a → IsSmall b → a.cycle ≡ b.cycle → a.proc ≡ b.proc → a.need.class ≡ b.need.class
      → a.id < b.id → a.life ≢ b.life → (j : ℕ) → j < a.need.count → IsHeld marked objects a.cycle b.id a.life j
