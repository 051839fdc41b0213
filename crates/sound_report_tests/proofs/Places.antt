-- A test of rule 4, and the seats that a report's addresses give.
use Rattle.std.proofs.Common.{◌≡◌, ℕ, ◌+◌, ◌-◌, ◌*◌, ◌/◌, ◌<◌, ◌≤◌, Bool, true, false, eqb, ltb, List, refl, sym, ap, ◌∙◌, subst, inl, inr, Decides}
use Rattle.std.proofs.Math.Nat.{mul-div_cancel_left, add-sub_cancel_left}
use Rattle.std.proofs.lemmas.Bool.{false≢true, cases_lt}
use Rattle.std.proofs.lemmas.Bool.Decides.{Decides-like, Decides-eqb, Decides-ltb}
use Rattle.page_bitmap.specs.declared.line.Line.{Line}
use Rattle.page_alloc.specs.Lists.{In}
use Rattle.page_alloc.specs.Lives.{Life, life_of, open_lives}
use Rattle.page_alloc.specs.Journal.{at_end}
use Rattle.cycle_history.specs.declared.Answer.{Answer}
use Rattle.cycle_history.specs.declared.Answer.TheVariants.{Placed, Zero, Missed}
use Rattle.cycle_history.specs.Requests.{Marking}
use Rattle.cycle_history.specs.Objects.{Object, is_placed, live, start_of, Sits, IsSeated}
use Rattle.cycle_history.specs.Rules.{AreSeated}
use Rattle.sound_report_tests.proofs.Tests.{Decides-then, Decides-implies, Decides-when, all_in, any_in, all_below, Decides-all, Decides-any, Decides-below}

-- ---- one life

abbrev pub same_life : Life → Life → Bool
same_life a b = elim (eqb a.number b.number) [ true ↦ elim (eqb a.cycle b.cycle) [ true ↦ elim (eqb a.page b.page) [ true ↦ elim (eqb a.pages b.pages) [ true ↦ eqb a.class b.class | false ↦ false ] | false ↦ false ] | false ↦ false ] | false ↦ false ]

life-same : (a b : Life) → a.number ≡ b.number → a.cycle ≡ b.cycle → a.page ≡ b.page → a.pages ≡ b.pages → a.class ≡ b.class → a ≡ b
life-same a b e1 e2 e3 e4 e5 = let e : life_of a.number a.cycle a.page a.pages a.class ≡ life_of b.number b.cycle b.page b.pages b.class = cc in e

pub Decides-same_life : (a b : Life) → Decides (same_life a b) (a ≡ b)
Decides-same_life a b =
    Decides-like (same_life a b)
    (λ (h : (a.number ≡ b.number) × ((a.cycle ≡ b.cycle) × ((a.page ≡ b.page) × ((a.pages ≡ b.pages) × (a.class ≡ b.class))))). life-same a b h.0 h.1.0 h.1.1.0 h.1.1.1.0 h.1.1.1.1)
    (λ e. (ap (λ (l : Life). l.number) e, (ap (λ (l : Life). l.cycle) e, (ap (λ (l : Life). l.page) e, (ap (λ (l : Life). l.pages) e, ap (λ (l : Life). l.class) e)))))
    (Decides-then (eqb a.number b.number) (elim (eqb a.cycle b.cycle) [ true ↦ elim (eqb a.page b.page) [ true ↦ elim (eqb a.pages b.pages) [ true ↦ eqb a.class b.class | false ↦ false ] | false ↦ false ] | false ↦ false ]) (Decides-eqb a.number b.number)
    (Decides-then (eqb a.cycle b.cycle) (elim (eqb a.page b.page) [ true ↦ elim (eqb a.pages b.pages) [ true ↦ eqb a.class b.class | false ↦ false ] | false ↦ false ]) (Decides-eqb a.cycle b.cycle)
    (Decides-then (eqb a.page b.page) (elim (eqb a.pages b.pages) [ true ↦ eqb a.class b.class | false ↦ false ]) (Decides-eqb a.page b.page)
    (Decides-then (eqb a.pages b.pages) (eqb a.class b.class) (Decides-eqb a.pages b.pages) (Decides-eqb a.class b.class)))))

abbrev pub is_life_in : List Life → Life → Bool
is_life_in lives life = any_in (λ l. same_life l life) lives

pub Decides-life_in : (lives : List Life) (life : Life) → Decides (is_life_in lives life) (In life lives)
Decides-life_in lives life =
    Decides-like (is_life_in lives life)
    (λ (h : (l : Life) × In l lives × (l ≡ life)). subst (λ (l : Life). In l lives) h.2 h.1)
    (λ i. (life, i, refl))
    (Decides-any (λ l. same_life l life) (λ l. l ≡ life) lives (λ l i. Decides-same_life l life))

-- ---- where an object sits

abbrev pub is_at : Answer → ℕ → Bool
is_at (Placed address) n = eqb address n
is_at Zero n = false
is_at (Missed line) n = false

Decides-at_address : (answer : Answer) (n : ℕ) → Decides (is_at answer n) (answer ≡ Placed n)
Decides-at_address (Placed address) n = Decides-like (eqb address n) (λ (e : address ≡ n). ap (λ (a : ℕ). Placed a) e) (λ e. cc) (Decides-eqb address n)
Decides-at_address Zero n = (λ h. absurd (false≢true h), λ e. cc)
Decides-at_address (Missed line) n = (λ h. absurd (false≢true h), λ e. cc)

abbrev pub sits_at : Object → Life → ℕ → Bool
sits_at o life k = elim (eqb life.class o.need.class) [ true ↦ elim (eqb life.pages o.need.pages) [ true ↦ elim (ltb k o.need.count) [ true ↦ is_at o.answer (start_of life + o.need.slot * k) | false ↦ false ] | false ↦ false ] | false ↦ false ]

pub Decides-sits_at : (o : Object) (life : Life) (k : ℕ) → Decides (sits_at o life k) (Sits o life k)
Decides-sits_at o life k =
    Decides-like (sits_at o life k)
    (λ (h : (life.class ≡ o.need.class) × ((life.pages ≡ o.need.pages) × ((k < o.need.count) × (o.answer ≡ Placed (start_of life + o.need.slot * k))))). record { class = h.0; pages = h.1.0; index = h.1.1.0; address = h.1.1.1 })
    (λ h. (h.class, (h.pages, (h.index, h.address))))
    (Decides-then (eqb life.class o.need.class) (elim (eqb life.pages o.need.pages) [ true ↦ elim (ltb k o.need.count) [ true ↦ is_at o.answer (start_of life + o.need.slot * k) | false ↦ false ] | false ↦ false ]) (Decides-eqb life.class o.need.class)
    (Decides-then (eqb life.pages o.need.pages) (elim (ltb k o.need.count) [ true ↦ is_at o.answer (start_of life + o.need.slot * k) | false ↦ false ]) (Decides-eqb life.pages o.need.pages)
    (Decides-then (ltb k o.need.count) (is_at o.answer (start_of life + o.need.slot * k)) (Decides-ltb k o.need.count) (Decides-at_address o.answer (start_of life + o.need.slot * k)))))

-- the index that an address has in a life, if it has one
abbrev pub index_at : Answer → ℕ → Life → ℕ
index_at (Placed address) slot life = (address - start_of life) / slot
index_at Zero slot life = 0
index_at (Missed line) slot life = 0

abbrev pub index_in : Object → Life → ℕ
index_in o life = index_at o.answer o.need.slot life

pub index-sits : (o : Object) (life : Life) (k : ℕ) → 1 ≤ o.need.slot → Sits o life k → index_in o life ≡ k
index-sits o life k some sits =
    let e : index_at o.answer o.need.slot life ≡ (start_of life + o.need.slot * k - start_of life) / o.need.slot = ap (λ (a : Answer). index_at a o.need.slot life) sits.address in
    e ∙ ap (λ (n : ℕ). n / o.need.slot) (add-sub_cancel_left (start_of life) (o.need.slot * k)) ∙ mul-div_cancel_left k some

abbrev pub sits_in : Object → Life → Bool
sits_in o life = sits_at o life (index_in o life)

pub Decides-sits_in : (o : Object) (life : Life) → 1 ≤ o.need.slot → Decides (sits_in o life) ((k : ℕ) × Sits o life k)
Decides-sits_in o life some =
    let at = Decides-sits_at o life (index_in o life) in
    (λ h. (index_in o life, at.0 h), λ h. at.1 (subst (λ (k : ℕ). Sits o life k) (sym (index-sits o life h.0 some h.1)) h.1))

-- ---- seats

abbrev pub is_only : List Life → Object → Life → Bool
is_only lives o life = all_in (λ other. elim (sits_in o other) [ true ↦ same_life other life | false ↦ true ]) lives

Decides-only : (lives : List Life) (o : Object) (life : Life) → 1 ≤ o.need.slot → Decides (is_only lives o life) ((other : Life) (k : ℕ) → In other lives → Sits o other k → other ≡ life)
Decides-only lives o life some =
    Decides-like (is_only lives o life)
    (λ (h : (other : Life) → In other lives → (k : ℕ) × Sits o other k → other ≡ life). λ other k i sits. h other i (k, sits))
    (λ h. λ other i sits. h other sits.0 i sits.1)
    (Decides-all (λ other. elim (sits_in o other) [ true ↦ same_life other life | false ↦ true ]) (λ other. (k : ℕ) × Sits o other k → other ≡ life) lives
    (λ other i. Decides-implies (sits_in o other) (same_life other life) (Decides-sits_in o other some) (Decides-same_life other life)))

abbrev pub stays_open : Marking → ℕ → List Line → Object → Life → Bool
stays_open marked bound past o life = all_below (λ c. elim (live marked c o) [ true ↦ is_life_in (open_lives (at_end c past)) life | false ↦ true ]) bound

Decides-stays : (marked : Marking) (bound : ℕ) (past : List Line) (o : Object) (life : Life) → ((c : ℕ) → bound ≤ c → live marked c o ≡ false)
    → Decides (stays_open marked bound past o life) ((c : ℕ) → live marked c o ≡ true → In life (open_lives (at_end c past)))
Decides-stays marked bound past o life late =
    Decides-like (stays_open marked bound past o life)
    (λ (h : (c : ℕ) → c < bound → live marked c o ≡ true → In life (open_lives (at_end c past))). λ c lives. elim (cases_lt c bound) [
      | inl early ↦ h c early lives
      | inr not_early ↦ (let dead = late c not_early in let none : ⊥ = cc in absurd none)
    ])
    (λ h. λ c lt. h c)
    (Decides-below (λ c. elim (live marked c o) [ true ↦ is_life_in (open_lives (at_end c past)) life | false ↦ true ]) (λ c. live marked c o ≡ true → In life (open_lives (at_end c past)))
    (λ c. Decides-implies (live marked c o) (is_life_in (open_lives (at_end c past)) life) (λ h. h, λ h. h) (Decides-life_in (open_lives (at_end c past)) life)) bound)

abbrev pub is_seat : Marking → ℕ → List Line → Object → Life → Bool
is_seat marked bound past o life = elim (eqb life.number o.life) [ true ↦ elim (sits_at o life o.index) [ true ↦ elim (is_only (open_lives (at_end o.cycle past)) o life) [ true ↦ stays_open marked bound past o life | false ↦ false ] | false ↦ false ] | false ↦ false ]

abbrev pub is_seated : Marking → ℕ → List Line → Object → Bool
is_seated marked bound past o = elim (is_placed o.answer) [ true ↦ any_in (is_seat marked bound past o) (open_lives (at_end o.cycle past)) | false ↦ true ]

-- what a placed object's need has, and when the object is dead
pub record IsBounded (marked : Marking) (bound : ℕ) (o : Object) : Type 0 where
  pub slot : is_placed o.answer ≡ true → 1 ≤ o.need.slot
  pub late : (c : ℕ) → bound ≤ c → live marked c o ≡ false

abbrev SeatFacts : Marking → List Line → Object → Life → Type 0
SeatFacts marked past o life = (life.number ≡ o.life) × (Sits o life o.index × (((other : Life) (k : ℕ) → In other (open_lives (at_end o.cycle past)) → Sits o other k → other ≡ life) × ((c : ℕ) → live marked c o ≡ true → In life (open_lives (at_end c past)))))

Decides-seat : (marked : Marking) (bound : ℕ) (past : List Line) (o : Object) (life : Life) → 1 ≤ o.need.slot → IsBounded marked bound o → Decides (is_seat marked bound past o life) (SeatFacts marked past o life)
Decides-seat marked bound past o life some bounded =
    Decides-then (eqb life.number o.life) (elim (sits_at o life o.index) [ true ↦ elim (is_only (open_lives (at_end o.cycle past)) o life) [ true ↦ stays_open marked bound past o life | false ↦ false ] | false ↦ false ]) (Decides-eqb life.number o.life)
    (Decides-then (sits_at o life o.index) (elim (is_only (open_lives (at_end o.cycle past)) o life) [ true ↦ stays_open marked bound past o life | false ↦ false ]) (Decides-sits_at o life o.index)
    (Decides-then (is_only (open_lives (at_end o.cycle past)) o life) (stays_open marked bound past o life) (Decides-only (open_lives (at_end o.cycle past)) o life some) (Decides-stays marked bound past o life bounded.late)))

Decides-placed_seat : (marked : Marking) (bound : ℕ) (past : List Line) (o : Object) → 1 ≤ o.need.slot → IsBounded marked bound o
    → Decides (any_in (is_seat marked bound past o) (open_lives (at_end o.cycle past))) ((life : Life) × IsSeated marked past o life)
Decides-placed_seat marked bound past o some bounded =
    Decides-like (any_in (is_seat marked bound past o) (open_lives (at_end o.cycle past)))
    (λ (h : (life : Life) × In life (open_lives (at_end o.cycle past)) × SeatFacts marked past o life).
    (h.0, record { number = h.2.0; here = h.1; sits = h.2.1.0; only = h.2.1.1.0; stays = h.2.1.1.1 }))
    (λ h. (h.0, h.1.here, (h.1.number, (h.1.sits, (h.1.only, h.1.stays)))))
    (Decides-any (is_seat marked bound past o) (SeatFacts marked past o) (open_lives (at_end o.cycle past)) (λ life i. Decides-seat marked bound past o life some bounded))

Decides-seated : (marked : Marking) (bound : ℕ) (past : List Line) (o : Object) → IsBounded marked bound o
    → Decides (is_seated marked bound past o) (is_placed o.answer ≡ true → (life : Life) × IsSeated marked past o life)
Decides-seated marked bound past o bounded =
    Decides-when (is_placed o.answer) (any_in (is_seat marked bound past o) (open_lives (at_end o.cycle past))) (λ placed. Decides-placed_seat marked bound past o (bounded.slot placed) bounded)

abbrev pub are_seated : Marking → ℕ → List Line → List Object → Bool
are_seated marked bound past objects = all_in (is_seated marked bound past) objects

pub Decides-are_seated : (marked : Marking) (bound : ℕ) (past : List Line) (objects : List Object) → ((o : Object) → In o objects → IsBounded marked bound o)
    → Decides (are_seated marked bound past objects) (AreSeated marked past objects)
Decides-are_seated marked bound past objects bounded =
    Decides-all (is_seated marked bound past) (λ o. is_placed o.answer ≡ true → (life : Life) × IsSeated marked past o life) objects (λ o i. Decides-seated marked bound past o (bounded o i))
