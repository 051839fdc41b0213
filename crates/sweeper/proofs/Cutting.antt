-- What a worker's steps on its block leave of it: it looks for a cut, settles and pulls.
use Rattle.std.proofs.Common.{◌≡◌, ℕ, ◌+◌, ◌-◌, ◌<◌, ◌&&◌, ◌||◌, Bool, true, false, true≢false, eq-eqb, ne_eqb, not, List, [], ◌∷◌, ◌++◌, refl, ap, sym, subst, ◌∙◌, arith}
use Rattle.std.proofs.lemmas.List.{append-nil}
use Rattle.std.specs.Option.{is_some}
use Rattle.std.specs.Prelude.{Ok, Err, None, Some, Option, option_map}
use Rattle.fallible_list.specs.declared.list.NoMemory.{NoMemory}
use Rattle.page_alloc.specs.Owners.{IsUnheld}
use Rattle.page_alloc.proofs.Lives.{within-true}
use Rattle.page_bitmap.specs.declared.line.Line.{Line}
use Rattle.page_bitmap.specs.declared.line.Line.TheVariants.{Pull as PullLine}
use Rattle.page_cache.specs.declared.block.Block.{Block}
use Rattle.page_cache.specs.Blocks.{has_page, page_count}
use Rattle.page_cache.specs.Counts.{count_below}
use Rattle.page_cache.proofs.Sums.{count_below-less}
use Rattle.page_cache.specs.Cache.{Cache, pages_left}
use Rattle.span_state.specs.declared.body.Body.{Body}
use Rattle.worker_log.specs.declared.Entry.{Entry}
use Rattle.worker_log.specs.declared.Entry.TheVariants.{Pulled as PulledEntry, NoPage as NoPageEntry, NoCut, Settled}
use Rattle.worker_log.specs.Entries.{many}
use Rattle.worker_log.specs.Logs.{sweepings}
use Rattle.worker_log.proofs.Logs.{many-append}
use Rattle.worker_log.specs.declared.Sweeping.{Sweeping}
use Rattle.span_laws.specs.CacheAnswers.{CutsSpan, IsBlockOf, IsEmptyCache, PullsBlock, SettlesBlock, block_of, left_in}
use Rattle.span_laws.specs.TakeAnswers.{cycle_at}
use Rattle.span_laws.specs.declared.answers.Pulled.TheVariants.{Got, NoPage}
use Rattle.span_laws.specs.declared.said.Said.TheVariants.{FindsNoCut, FindsNoPage, Pulls, Settles}
use Rattle.span_laws.specs.OwnSteps.{after_said, with_block}
use Rattle.span_laws.specs.Views.{Seen}
use Rattle.span_set.specs.Blocks.{HasNoOwnBlock}
use Rattle.span_set.specs.Fits.{no_page}
use Rattle.span_set.proofs.Fits.{fits-none}
use Rattle.sweeper.specs.MakeSteps.{CutsOrPulls, Readies}
use Rattle.sweeper.specs.NewSpans.{FoundNoCut}
use Rattle.sweeper.specs.Entries.{is_bare_cut, is_pulling}
use Rattle.sweeper.specs.Work.{PullsBehind, Stays}
use Rattle.sweeper.proofs.Counting.{makes-append, nothing-none, plain-makes, sweepings-append}
use Rattle.sweeper.proofs.Pulling.{behind-none}
use Rattle.sweeper.proofs.Working.{does-both, does-nothing}

pub readies-nothing : (a : Seen) → Readies [] a a
readies-nothing a = record {
  does = does-nothing a;
  makes_none = plain-makes [] nothing-none.plain;
  sweeps_none = refl;
  popped = refl;
  uncached = λ off. refl;
}

pub readies-both : (a b d : Seen) (x y : List Entry) → Readies x a b → Readies y b d → Readies (y ++ x) a d
readies-both a b d x y p q = record {
  does = does-both a b d [] [] x y p.does q.does;
  makes_none = makes-append y x q.makes_none p.makes_none;
  sweeps_none = sweepings-append y x ∙ ap (λ (l : List Sweeping). l ++ sweepings x) q.sweeps_none ∙ p.sweeps_none;
  popped = q.popped ∙ p.popped;
  uncached = λ off. (λ i. q.uncached (p.does.stays.caching ∙ off) i ++ p.uncached off i);
}

pub found_no_cut : (old new : Seen) → old.caching ≡ true → (n left : ℕ) → new ≡ after_said (FindsNoCut n left) old → Readies (NoCut n left ∷ []) old new
found_no_cut old new on n left e = record {
  does = record {
    log = ap (λ (x : Seen). x.view.own.log) e;
    sweeps = record { unplaced = refl; unspent = refl; swept_pages = refl; given = λ p. refl; pushed = λ p. refl; unpopped = λ j p s. refl; unlooked = λ j s. refl; untouched = λ p. refl };
    sets = fits-none old.view.generation no_page (NoCut n left ∷ []) old new [] refl (ap (λ (x : Seen). x.view.own.spans) e);
    held = ap (λ (x : Seen). x.view.own.held) e ∙ sym (append-nil old.view.own.held);
    stays = subst (Stays old) (sym e) (record { away = refl; table = refl; number = refl; caching = refl; region = refl; goal = refl; procs = refl; generation = refl; marks = refl; before = refl; carried = refl; parts = refl; sweeping = refl; cached = refl; claimed = refl; fresh = refl; reset = refl; bodies = λ q h. refl });
  };
  makes_none = record { takes_none = record { untaken = refl; unmissed = refl }; unclaimed = refl; unread = λ i. refl };
  sweeps_none = refl;
  popped = ap (λ (x : Seen). x.view.own.popped) e;
  uncached = λ off. absurd (true≢false (sym on ∙ off));
}

pub found_no_page : (old new : Seen) → old.caching ≡ true → new ≡ after_said FindsNoPage old → Readies (NoPageEntry ∷ []) old new
found_no_page old new on e = record {
  does = record {
    log = ap (λ (x : Seen). x.view.own.log) e;
    sweeps = record { unplaced = refl; unspent = refl; swept_pages = refl; given = λ p. refl; pushed = λ p. refl; unpopped = λ j p s. refl; unlooked = λ j s. refl; untouched = λ p. refl };
    sets = fits-none old.view.generation no_page (NoPageEntry ∷ []) old new [] refl (ap (λ (x : Seen). x.view.own.spans) e);
    held = ap (λ (x : Seen). x.view.own.held) e ∙ sym (append-nil old.view.own.held);
    stays = subst (Stays old) (sym e) (record { away = refl; table = refl; number = refl; caching = refl; region = refl; goal = refl; procs = refl; generation = refl; marks = refl; before = refl; carried = refl; parts = refl; sweeping = refl; cached = refl; claimed = refl; fresh = refl; reset = refl; bodies = λ q h. refl });
  };
  makes_none = record { takes_none = record { untaken = refl; unmissed = refl }; unclaimed = refl; unread = λ i. refl };
  sweeps_none = refl;
  popped = ap (λ (x : Seen). x.view.own.popped) e;
  uncached = λ off. absurd (true≢false (sym on ∙ off));
}

pub pulled_block : (old new : Seen) → old.caching ≡ true → (line cycle proc : ℕ) (block : Block) → new ≡ after_said (Pulls line cycle proc block) old → Readies (PulledEntry line (PullLine cycle proc block.page (page_count block)) ∷ []) old new
pulled_block old new on line cycle proc block e = record {
  does = record {
    log = ap (λ (x : Seen). x.view.own.log) e;
    sweeps = record { unplaced = refl; unspent = refl; swept_pages = refl; given = λ p. refl; pushed = λ p. refl; unpopped = λ j p s. refl; unlooked = λ j s. refl; untouched = λ p. refl };
    sets = fits-none old.view.generation no_page (PulledEntry line (PullLine cycle proc block.page (page_count block)) ∷ []) old new [] refl (ap (λ (x : Seen). x.view.own.spans) e);
    held = ap (λ (x : Seen). x.view.own.held) e ∙ sym (append-nil old.view.own.held);
    stays = subst (Stays old) (sym e) (record { away = refl; table = refl; number = refl; caching = refl; region = refl; goal = refl; procs = refl; generation = refl; marks = refl; before = refl; carried = refl; parts = refl; sweeping = refl; cached = refl; claimed = refl; fresh = refl; reset = refl; bodies = λ q h. refl });
  };
  makes_none = record { takes_none = record { untaken = refl; unmissed = refl }; unclaimed = refl; unread = λ i. refl };
  sweeps_none = refl;
  popped = ap (λ (x : Seen). x.view.own.popped) e;
  uncached = λ off. absurd (true≢false (sym on ∙ off));
}

pub settled_block : (old new : Seen) → old.caching ≡ true → (line : ℕ) → new ≡ after_said (Settles line) old → Readies (Settled line ∷ []) old new
settled_block old new on line e = record {
  does = record {
    log = ap (λ (x : Seen). x.view.own.log) e;
    sweeps = record { unplaced = refl; unspent = refl; swept_pages = refl; given = λ p. refl; pushed = λ p. refl; unpopped = λ j p s. refl; unlooked = λ j s. refl; untouched = λ p. refl };
    sets = fits-none old.view.generation no_page (Settled line ∷ []) old new [] refl (ap (λ (x : Seen). x.view.own.spans) e);
    held = ap (λ (x : Seen). x.view.own.held) e ∙ sym (append-nil old.view.own.held);
    stays = subst (Stays old) (sym e) (record { away = refl; table = refl; number = refl; caching = refl; region = refl; goal = refl; procs = refl; generation = refl; marks = refl; before = refl; carried = refl; parts = refl; sweeping = refl; cached = refl; claimed = refl; fresh = refl; reset = refl; bodies = λ q h. refl });
  };
  makes_none = record { takes_none = record { untaken = refl; unmissed = refl }; unclaimed = refl; unread = λ i. refl };
  sweeps_none = refl;
  popped = ap (λ (x : Seen). x.view.own.popped) e;
  uncached = λ off. absurd (true≢false (sym on ∙ off));
}

-- the own block is settled, if there is one, and none is pulled
pub settled : (old new : Seen) (out : Option Block) → SettlesBlock old new out → (old.caching ≡ false → new ≡ old) → (said : List Entry) × Readies said old new × (many is_pulling said ≡ 0)
settled old new out s bare = go old.caching refl out s
  where
    same : new ≡ old → (said : List Entry) × Readies said old new × (many is_pulling said ≡ 0)
    same e = ([], subst (Readies [] old) (sym e) (readies-nothing old), refl)

    go : (b : Bool) → old.caching ≡ b → (o : Option Block) → SettlesBlock old new o → (said : List Entry) × Readies said old new × (many is_pulling said ≡ 0)
    go false off o z = same (bare off)
    go true on None z = same z
    go true on (Some b) z = (Settled z.0 ∷ [], settled_block old new on z.0 z.1, refl)

-- and then it has none
pub none_after : (old new : Seen) → SettlesBlock old new (block_of old.view.own.cache) → HasNoOwnBlock new
none_after old new s k at = ap block_of (sym at) ∙ go old.view.own.cache refl s
  where
    by_block : (j : Cache) (b : Option Block) → old.view.own.cache ≡ Some j → j.block ≡ b → SettlesBlock old new b → block_of new.view.own.cache ≡ None
    by_block j None e f z = ap (λ (w : Seen). block_of w.view.own.cache) z ∙ ap block_of e ∙ f
    by_block j (Some b) e f z = ap (λ (w : Seen). block_of w.view.own.cache) z.1 ∙ ap (λ (o : Option Cache). block_of (option_map (with_block None) o)) e

    go : (o : Option Cache) → old.view.own.cache ≡ o → SettlesBlock old new (block_of o) → block_of new.view.own.cache ≡ None
    go None e z = ap (λ (w : Seen). block_of w.view.own.cache) z ∙ ap block_of e
    go (Some j) e z = by_block j j.block e refl z

-- the block has no page left
no_pages : (w : Option Cache) (left : ℕ) → Some left ≡ option_map (λ (k : Cache). pages_left k.block) w → left_in w ≡ left
no_pages None left e = absurd (let z : Some left ≡ None = e in cc)
no_pages (Some k) left e = let z : Some left ≡ Some (pages_left k.block) = e in sym (cc)

-- a worker has a page cache of which so many pages are told
pub has_cache : (w : Option Cache) (left : ℕ) → Some left ≡ option_map (λ (k : Cache). pages_left k.block) w → (k : Cache) × (w ≡ Some k)
has_cache None left e = absurd (let z : Some left ≡ None = e in cc)
has_cache (Some k) left e = (k, refl)

-- a find with pages left
pub left_some : (n left : ℕ) → 0 < left → FoundNoCut n (NoCut n left ∷ [])
left_some n left l = rw (eq-eqb n n refl, ne_eqb left 0 (λ e. omega arith)) (omega arith)

-- a find without
left_none : (n left : ℕ) → left ≡ 0 → 0 < many (is_bare_cut n) (NoCut n left ∷ [])
left_none n left e = rw (eq-eqb n n refl, eq-eqb left 0 e) (omega arith)

-- ---- a block that was pulled has pages

some_below : (n i : ℕ) (f : ℕ → Bool) → i < n → f i ≡ true → 0 < count_below n f
some_below n i f low is = let z = count_below-less n f (λ _. false) (λ k no. absurd (true≢false (sym no))) i low is refl in omega arith

block_pages : (s : Seen) (past : List Line) (line : ℕ) (block : Block) → IsBlockOf s past line block → 0 < page_count block
block_pages s past line block b =
    let l = b.least in let q = l.least in
    let at : q ≡ block.page + (q - block.page) = (let e = l.first in omega arith) in
    let low : q - block.page < 64 = (let e = l.first in omega arith) in
    let free : IsUnheld past q = l.free.here.free q (omega arith) (omega arith) in
    some_below 64 (q - block.page) (λ i. has_page block (block.page + i)) low
    (subst (λ (p : ℕ). has_page block p ≡ true) at (b.pages q ∙ (λ i. within-true q block.page 64 (let e = l.first in omega arith) (let e = l.first in omega arith) i && not (is_some (free.owner i) || is_some (free.cached i)))))

-- ---- the call

-- a settled page cache is still there
still_there : (old new : Seen) (out : Option Block) (k : Cache) → old.view.own.cache ≡ Some k → SettlesBlock old new out → (j : Cache) × (new.view.own.cache ≡ Some j)
still_there old new None k at e = (k, ap (λ (w : Seen). w.view.own.cache) e ∙ at)
still_there old new (Some b) k at e = (with_block None k, ap (λ (w : Seen). w.view.own.cache) e.1 ∙ ap (option_map (with_block None)) at)

module _ (n class : ℕ) (old w1 : Seen) (left : ℕ) (on : old.caching ≡ true) (pages : Some left ≡ option_map (λ (k : Cache). pages_left k.block) old.view.own.cache) (c : CutsSpan n class old w1 None) where
  first : Readies (NoCut n (left_in old.view.own.cache) ∷ []) old w1
  first = found_no_cut old w1 on n (left_in old.view.own.cache) c.1

  -- its block has pages left
  pub some_left : 0 < left → CutsOrPulls n class old w1 (Ok None)
  some_left l = (NoCut n (left_in old.view.own.cache) ∷ [], first, λ _. left_some n (left_in old.view.own.cache) (let e = no_pages old.view.own.cache left pages in omega arith), (omega arith, tt))

  -- it has none left, and is settled
  module _ (none : left ≡ 0) (w2 : Seen) (settles : SettlesBlock w1 w2 (block_of w1.view.own.cache)) (bare : w1.caching ≡ false → w2 ≡ w1) where
    abbrev set : (said : List Entry) × Readies said w1 w2 × (many is_pulling said ≡ 0)
    set = settled w1 w2 (block_of w1.view.own.cache) settles bare

    there : (j : Cache) × (w2.view.own.cache ≡ Some j)
    there = let k = has_cache old.view.own.cache left pages in still_there w1 w2 (block_of w1.view.own.cache) k.0 (ap (λ (w : Seen). w.view.own.cache) c.1 ∙ k.1) settles

    pub may_pull : IsEmptyCache w2.view.own.cache
    may_pull = (there.0, there.1, none_after w1 w2 settles there.0 there.1)

    abbrev said2 : List Entry
    said2 = set.0 ++ NoCut n (left_in old.view.own.cache) ∷ []

    second : Readies said2 old w2
    second = readies-both old w1 w2 (NoCut n (left_in old.view.own.cache) ∷ []) set.0 first set.1

    unpulled : many is_pulling said2 ≡ 0
    unpulled = let a = many-append is_pulling set.0 (NoCut n (left_in old.view.own.cache) ∷ []) in let z = set.2 in omega arith

    bare_cut : 0 < many (is_bare_cut n) said2
    bare_cut = let a = many-append (is_bare_cut n) set.0 (NoCut n (left_in old.view.own.cache) ∷ []) in let z = left_none n (left_in old.view.own.cache) (no_pages old.view.own.cache left pages ∙ none) in omega arith

    behind2 : PullsBehind n said2
    behind2 = behind-none n said2 unpulled

    on2 : w2.caching ≡ true
    on2 = second.does.stays.caching ∙ on

    pub pull_wants : (w3 : Seen) (e : NoMemory) → PullsBlock w2 w3 (Err e) → CutsOrPulls n class old w3 (Err e)
    pull_wants w3 e p = (said2, subst (Readies said2 old) (sym p) second, behind2)

    pub pull_none : (w3 : Seen) → PullsBlock w2 w3 (Ok NoPage) → CutsOrPulls n class old w3 (Ok None)
    pull_none w3 p = (NoPageEntry ∷ said2, readies-both old w2 w3 said2 (NoPageEntry ∷ []) second (found_no_page w2 w3 on2 p.0), (λ _. omega arith), (omega (arith, unpulled, bare_cut), behind2))

    module _ (w3 : Seen) (more : ℕ) (p : PullsBlock w2 w3 (Ok (Got more))) where
      abbrev pull : Entry
      pull = PulledEntry p.1 (PullLine (cycle_at w2.view.generation) w2.number p.2.page (page_count p.2))

      third : Readies (pull ∷ said2) old w3
      third = readies-both old w2 w3 said2 (pull ∷ []) second (pulled_block w2 w3 on2 p.1 (cycle_at w2.view.generation) w2.number p.2 p.5)

      behind3 : PullsBehind n (pull ∷ said2)
      behind3 = (omega (arith, unpulled, bare_cut), behind2)

      has_pages : 0 < left_in w3.view.own.cache
      has_pages = subst (λ (k : Option Cache). 0 < left_in k) (sym (ap (λ (w : Seen). w.view.own.cache) p.5 ∙ ap (option_map (with_block (Some p.2))) there.1)) (block_pages w2 p.0 p.1 p.2 p.4)

      pub pull_cuts : (w4 : Seen) (a : Option Body) → CutsSpan n class w3 w4 a → CutsOrPulls n class old w4 (Ok a)
      pull_cuts w4 (Some b) d = (w3, pull ∷ said2, third, on, d, behind3)
      pull_cuts w4 None d = (
        NoCut n (left_in w3.view.own.cache) ∷ pull ∷ said2,
        readies-both old w3 w4 (pull ∷ said2) (NoCut n (left_in w3.view.own.cache) ∷ []) third (found_no_cut w3 w4 (third.does.stays.caching ∙ on) n (left_in w3.view.own.cache) d.1),
        (λ _. (let z = left_some n (left_in w3.view.own.cache) has_pages in omega arith)),
        (omega (arith, unpulled, bare_cut), behind3),
      )
