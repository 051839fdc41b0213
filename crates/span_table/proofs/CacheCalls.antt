-- What the calls on page caches know of a worker that rests, and of its page cache under the heap lock.
use Rattle.std.proofs.Common.{◌≡◌, ◌⊎◌, inl, inr, ⊎_elim, ℕ, ◌+◌, ◌<◌, ◌≤◌, Bool, true, false, true≢false, List, [], ◌∷◌, ◌++◌, length, refl, sym, ap, subst, ◌∙◌, arith}
use Rattle.std.specs.Prelude.{None, Some, Option, IfSome, IfNone, option_map}
use Rattle.std.proofs.lemmas.Bool.{cases_lt}
use Rattle.atomic_table.specs.Seated.{TableId}
use Rattle.page_alloc.specs.Cuts.{IsCutFrom, Settles}
use Rattle.page_alloc.specs.FreeRuns.{IsSpanSize}
use Rattle.page_alloc.specs.Heap.{PageHeap}
use Rattle.page_alloc.proofs.Lives.{span_pages}
use Rattle.page_cache.specs.Blocks.{has_page}
use Rattle.page_cache.specs.Cache.{Cache, IsCut, first_page, in_block, only}
use Rattle.page_cache.specs.Runs.{IsFirstRun, IsRun, LosesRun}
use Rattle.page_cache.specs.declared.block.Block.{Block}
use Rattle.page_cache.specs.declared.block.CutNote.{CutNote}
use Rattle.run_laws.specs.Blocks.{OutBlock, block_after, out_of}
use Rattle.worker_log.specs.declared.Entry.TheVariants.{Cut as CutEntry}
use Rattle.span_state.specs.declared.body.Body.{Body}
use Rattle.span_laws.specs.Asks.{IsUntouched, mine}
use Rattle.span_laws.specs.CacheAnswers.{CutsNew, IsCutOf, IsEmptyCache, block_of}
use Rattle.span_laws.specs.OwnSteps.{after_cut, heard_of, told, told_of, with_block}
use Rattle.span_laws.specs.TakeAnswers.{IsNew, cycle_at}
use Rattle.span_laws.specs.Views.{Seen, span_of}
use Rattle.span_laws.specs.declared.said.Said.TheVariants.{Pulls}
use Rattle.span_laws.specs.declared.said.SaidOf.TheVariants.{Cuts}
use Rattle.span_table.specs.Asks.{CutsRun, HeapSeen, SettlesRun}
use Rattle.span_table.specs.Known.{IsLineOf, Rests, known}
use Rattle.span_table.specs.Seats.{SeatState, locks, says, says_of}
use Rattle.span_table.specs.declared.view.Item.{Item}
use Rattle.span_table.proofs.Resting.{rests_cached}

which : (b : Bool) → (b ≡ true) ⊎ (b ≡ false)
which true = inl refl
which false = inr refl

none_cache : {A : Type 0} (x : Cache) → None ≡ Some x → A
none_cache x e = absurd cc

none_left : {A : Type 0} (b : Block) → None ≡ Some b → A
none_left b e = absurd cc

none_page : {A : Type 0} (p : ℕ) → None ≡ Some p → A
none_page p e = absurd cc

-- a block is there
pub some_block : (o : Option Block) → (o ≡ None → ⊥) → (b : Block) × (o ≡ Some b)
some_block None not_none = absurd (not_none refl)
some_block (Some b) not_none = (b, refl)

-- where it has pages
pub block_with : (o : Option Block) (n page : ℕ) → 1 ≤ n → IsRun (in_block o) page n → (b : Block) × (o ≡ Some b)
block_with None n page some run = absurd (true≢false (sym (run page (omega arith) (omega arith))))
block_with (Some b) n page some run = (b, refl)

-- a page of a block is one of its 64
page_behind : (b : Block) (page : ℕ) → b.page + 64 ≤ page → has_page b page ≡ false
page_behind b page high = grind arith

pub page_below : (b : Block) (page : ℕ) → has_page b page ≡ true → page < b.page + 64
page_below b page has = elim (cases_lt page (b.page + 64)) [
  | inl low ↦ low
  | inr high ↦ absurd (true≢false (sym has ∙ page_behind b page high))
]

-- a cut leaves a block
pub cut_leaves : (old new : Option Block) (b : Block) → old ≡ Some b → first_page new ≡ first_page old → new ≡ None → ⊥
cut_leaves old new b is first none = none_page b.page (sym (ap first_page none) ∙ first ∙ ap first_page is)

module _ (n g y : ℕ) (l : List ℕ) (cache : Option Cache) (line : ℕ) (t : TableId) (m : SeatState) (r : Rests n g y l cache line t m) (x : Cache) (is : cache ≡ Some x) where
  pub own_cache : m.0.view.own.cache ≡ Some x
  own_cache = sym r.cache_is ∙ is

  caching : m.0.caching ≡ true
  caching = ⊎_elim (λ e. e) (λ (e : m.0.caching ≡ false). none_cache x (sym (r.bare e) ∙ is)) (which m.0.caching)

  pub allowed : (m.0.number < 64) × (m.0.number < m.0.view.procs)
  allowed = let a = r.caches caching in (subst (λ (z : ℕ). z < 64) r.number_is a.0, subst (λ (z : ℕ). z < m.0.view.procs) r.number_is a.1)

  facts : (x.proc ≡ n) × (x.block ≡ None → x.cuts ≡ [])
  facts = subst (λ (z : Option Cache). IfSome z (λ k. (k.proc ≡ n) × (k.block ≡ None → k.cuts ≡ []))) is (r.caches caching).2

  pub of_number : x.proc ≡ m.0.number
  of_number = facts.0 ∙ r.number_is

  pub no_cuts : x.block ≡ None → x.cuts ≡ []
  no_cuts = facts.1

  -- a page cache without a block has nothing
  pub is_empty : x.block ≡ None → x ≡ only m.0.number None
  is_empty none = λ i. record { proc = of_number i; block = none i; cuts = no_cuts none i }

  pub no_block : IsEmptyCache m.0.view.own.cache → x.block ≡ None
  no_block e = ap block_of (sym own_cache ∙ e.1) ∙ e.2

  module _ (block : Block) (has : x.block ≡ Some block) where
    -- its block is out
    pub pulled : (b : OutBlock) × (out_of m.0.view.own.log ≡ Some b) × (line ≡ b.number) × (block.page + 64 ≤ m.0.view.region)
    pulled = r.line_is.pulled x block own_cache has

    pub asks : (h : PageHeap) → HeapSeen h m.0 → IsCutFrom h.past x
    asks h s = (s.cut x pulled.0 own_cache pulled.1).0

    -- it is settled under the heap lock
    pub settles : (h h' : PageHeap) → HeapSeen h m.0 → Settles h h' (cycle_at m.0.view.generation) x → (last : ℕ) → last ≡ length x.cuts + length h.past → SettlesRun h' last (locks h m.0)
    settles h h' s how last counted = record {
      old = h;
      had = refl;
      cache = x;
      has_cache = own_cache;
      out = pulled.0;
      is_out = pulled.1;
      settles = how;
      number = counted ∙ ap (λ (z : ℕ). z + length h.past) (s.cut x pulled.0 own_cache pulled.1).1;
      allowed = allowed;
    }

    -- a span is cut out of it
    module _ (x' : Cache) (left : Block) (b : Body) (n' page class : ℕ) (is_new : IsNew n' class b) (at : b.page ≡ page) (size : IsSpanSize class n')
        (was_cut : IsCut x x' (record { page = page; pages = n'; class = class })) (leaves : x'.block ≡ Some left) (was_first : IsFirstRun (in_block x.block) n' page) where
      some : 1 ≤ b.pages
      some = subst (λ (z : ℕ). 1 ≤ z) (sym is_new.pages) (span_pages class n' size)

      cut : IsCut x x' (record { page = b.page; pages = b.pages; class = b.class })
      cut = subst (λ (z : ℕ × ℕ × ℕ). IsCut x x' (record { page = z.0; pages = z.1; class = z.2 })) (λ i. (sym at i, sym is_new.pages i, sym is_new.class i)) was_cut

      first : IsFirstRun (in_block x.block) b.pages b.page
      first = subst (λ (z : ℕ × ℕ). IsFirstRun (in_block x.block) z.0 z.1) (λ i. (sym is_new.pages i, sym at i)) was_first

      pub cut_of : IsCutOf b.pages x b.page left
      cut_of = record { first = first; loses = subst (λ (o : Option Block). LosesRun (in_block x.block) (in_block o) b.page b.pages) leaves cut.pages }

      pub cut_inside : b.page < m.0.view.region
      cut_inside = let so = some in let low = page_below block b.page (subst (λ (o : Option Block). in_block o b.page ≡ true) has (first.run b.page (omega arith) (omega arith))) in let p = pulled in let y = p.3 in omega arith

      same_first : left.page ≡ block.page
      same_first = some_page (sym (ap first_page leaves) ∙ cut.first ∙ ap first_page has)
        where
          page_or : Option ℕ → ℕ
          page_or None = 0
          page_or (Some p) = p

          some_page : {p q : ℕ} → Some p ≡ Some q → p ≡ q
          some_page e = ap page_or e

      pub cuts_run : n' < 16 → b.life ≡ line → CutsRun b left m.0
      cuts_run few life = record {
        cache = x;
        has_cache = own_cache;
        block = block;
        has_block = has;
        first = same_first;
        cut = cut_of;
        few = subst (λ (z : ℕ). z < 16) (sym is_new.pages) few;
        size = subst (λ (z : ℕ × ℕ). IsSpanSize z.0 z.1) (λ i. (sym is_new.class i, sym is_new.pages i)) size;
        out = pulled.0;
        is_out = pulled.1;
        life = life ∙ pulled.2;
      }

      -- the page cache is then as the log tells
      pub cached_now : Some x' ≡ option_map (after_cut left (span_of b)) m.0.view.own.cache
      cached_now = (λ i. Some (record { proc = cut.proc i; block = leaves i; cuts = cut.noted i })) ∙ ap (λ (o : Option Cache). option_map (after_cut left (span_of b)) o) (sym own_cache)

      pub line_now : IsLineOf line m.0.view.region (option_map (after_cut left (span_of b)) m.0.view.own.cache) (out_of (CutEntry b.page b.pages b.class ∷ m.0.view.own.log))
      line_now = subst (λ (z : Option Cache × Option OutBlock). IsLineOf line m.0.view.region (option_map (after_cut left (span_of b)) z.0) (block_after (CutEntry b.page b.pages b.class) z.1)) (λ i. (sym own_cache i, sym pulled.1 i))
          (record { pulled = λ k c is has. (_, refl, pulled.2, subst (λ (p : ℕ). p + 64 ≤ m.0.view.region) (sym same_first ∙ ap page_in (ap block_of is ∙ has)) pulled.3) })
        where
          page_in : Option Block → ℕ
          page_in None = 0
          page_in (Some c) = c.page

      -- the seat then rests, with what is left
      pub rests_cut : (t' : TableId) (m' : SeatState) → t' ≡ t → m' ≡ (says_of (Cuts left) (span_of b) m.0, m.1) → Rests n g y l (Some x') line t' m'
      rests_cut t' m' same e = rests_cached n g y l cache line t t' m m' r same (told_of (Cuts left) (span_of b) m.0.view.own) (heard_of (Cuts left) m.0.journal) (Some x') line cached_now line_now
          (λ bare. absurd (true≢false (sym caching ∙ bare)))
          (λ _. ((cut.proc ∙ facts.0, λ none. no_cut none), tt))
          (e ∙ ap (λ (z : List (ℕ × Item)). let w : SeatState = (says_of (Cuts left) (span_of b) m.0, z) in w) r.empty)
        where
          no_cut : x'.block ≡ None → x'.cuts ≡ []
          no_cut none = absurd (none_left left (sym none ∙ leaves))

      -- and its contracts see a new span
      pub cuts_new : (k : Seen) (is_seen : known t m.0 ≡ k) (t' : TableId) (m' : SeatState) → t' ≡ t → m' ≡ (says_of (Cuts left) (span_of b) m.0, m.1) → b.life ≡ line → IsUntouched m.0.view.generation m.0.view.own b.page → mine b.page m.0.view.own ≡ 0
          → CutsNew n' class k (known t' m'.0) b
      cuts_new k is_seen t' m' same e life untouched nothing = subst (λ (z : Seen). CutsNew n' class z (known t' m'.0) b) is_seen (record {
        is_new = is_new;
        cache = x;
        has = own_cache;
        left = left;
        cut = subst (λ (z : ℕ). IsCutOf z x b.page left) is_new.pages cut_of;
        out = pulled.0;
        is_out = pulled.1;
        life = life ∙ pulled.2;
        view = λ i. known (same i) (e i).0;
        untouched = untouched;
        nothing = nothing;
      })

  -- a block is pulled under the heap lock, where it has none
  module _ (block : Block) (number : ℕ) (inside : block.page + 64 ≤ m.0.view.region) where
    filled_now : Some (only x.proc (Some block)) ≡ option_map (with_block (Some block)) m.0.view.own.cache
    filled_now = ap (λ (o : Option Cache). option_map (with_block (Some block)) o) (sym own_cache)

    line_filled : (cycle : ℕ) → IsLineOf number m.0.view.region (option_map (with_block (Some block)) m.0.view.own.cache) (out_of (told (Pulls number cycle m.0.number block) m.0.view.own).log)
    line_filled cycle = subst (λ (o : Option Cache). IsLineOf number m.0.view.region (option_map (with_block (Some block)) o) (out_of (told (Pulls number cycle m.0.number block) m.0.view.own).log)) (sym own_cache)
        (record { pulled = λ k c is has. (_, refl, refl, subst (λ (p : ℕ). p + 64 ≤ m.0.view.region) (ap page_in (ap block_of is ∙ has)) inside) })
      where
        page_in : Option Block → ℕ
        page_in None = 0
        page_in (Some c) = c.page

    pub rests_pulled : (cycle : ℕ) (t' : TableId) (m' : SeatState) → t' ≡ t → m' ≡ (record (says (Pulls number cycle m.0.number block) m.0) { heap = None }, []) → Rests n g y l (Some (only x.proc (Some block))) number t' m'
    rests_pulled cycle t' m' same e = rests_cached n g y l cache line t t' m m' r same (told (Pulls number cycle m.0.number block) m.0.view.own) None (Some (only x.proc (Some block))) number filled_now (line_filled cycle)
        (λ bare. absurd (true≢false (sym caching ∙ bare)))
        (λ _. ((facts.0, λ none. none_block block (sym none)), tt))
        (e ∙ ap (λ (h : Option PageHeap). let w : SeatState = (record (says (Pulls number cycle m.0.number block) m.0) { heap = h }, []) in w) (sym r.unlocked))
      where
        none_block : {A : Type 0} (b : Block) → None ≡ Some b → A
        none_block b e = absurd cc
