-- The page cache of a part comes or goes while no block of it is out: neither the core nor anything else of the part changes.
use Rattle.std.proofs.Common.{◌≡◌, ◌⊎◌, inl, inr, ⊎_elim, ℕ, ◌<◌, List, [], length, get_or, set, refl, sym, ap, subst, ◌∙◌, arith}
use Rattle.std.specs.Prelude.{None, Some, Option}
use mathlib.Core.Option.{some}
use lib.ListN.{get_elem?}
use lib.Seq.{set-get_or}
use Rattle.std.proofs.Math.ListN.{length-set}
use Rattle.page_cache.specs.Cache.{Cache, only}
use Rattle.run_laws.specs.Blocks.{out_of}
use Rattle.sweep_laws.proofs.Naming.{set_here}
use Rattle.span_laws.specs.CacheAnswers.{IsEmptyCache}
use Rattle.span_laws.specs.Caches.{CacheTells}
use Rattle.span_laws.specs.Cycle.{Kept}
use Rattle.span_laws.specs.Handed.{with_cache}
use Rattle.span_laws.specs.Views.{acts, no_part}
use Rattle.span_laws.specs.declared.view.Part.{Part}
use Rattle.span_laws.proofs.Caches.{idle_pulled}
use Rattle.span_laws.proofs.Kept.{kept_hand, kept_recache}
use Rattle.span_table.specs.Running.{Counted, JointState, Lawful, Slots, Stored, whole}
use Rattle.span_table.proofs.CountsKept.{counts_found}
use Rattle.span_table.proofs.Joined.{get_at}
use Rattle.span_table.proofs.StoredKept.{stored_still}

-- what a table shows where a part has another page cache
abbrev pub recached : JointState → ℕ → Part → Option Cache → JointState
recached g m h x = record g { parts = set g.parts m (with_cache x h) }

-- a part without a page cache, or whose page cache has no block, has pulled nothing and has no block out
pub idle_part : (n : ℕ) (h : Part) → CacheTells n h → (h.cache ≡ None) ⊎ IsEmptyCache h.cache → (out_of h.log ≡ None) × (h.pulled ≡ [])
idle_part n h tells why = ⊎_elim (λ (none : h.cache ≡ None). tells.none none) (λ (empty : IsEmptyCache h.cache). idle_pulled n h tells empty.0 empty.1 empty.2) why

module _ (g : JointState) (m : ℕ) (low : m < length g.parts) (h : Part) (at : get_elem? g.parts m ≡ some h) (k : Lawful g) where
  own_is : get_or g.parts m no_part ≡ h
  own_is = get_at g.parts m h no_part at

  kept_now : Kept g.core g.heap g.homes m (record g.base { own = h; parts = g.parts })
  kept_now = subst (λ (y : Part). Kept g.core g.heap g.homes m (record g.base { own = y; parts = g.parts })) own_is (k.kept m low)

  pub tells_now : CacheTells m h
  tells_now = kept_now.rule.caches m h (set_here g.parts m h low)

  module _ (x : Option Cache) (idle : (out_of h.log ≡ None) × (h.pulled ≡ [])) (new : (x ≡ None) ⊎ (x ≡ Some (only m None))) where
    now : Kept g.core g.heap g.homes m (record g.base { own = with_cache x h; parts = g.parts })
    now = kept_recache g.core g.heap g.homes m (record g.base { own = h; parts = g.parts }) kept_now x idle.0 idle.1 new

    pub recached_lawful : Lawful (recached g m h x)
    recached_lawful = record {
      kept = λ n below. kept_hand g.core g.heap g.homes m (record g.base { own = with_cache x h; parts = g.parts }) now n (subst (λ (z : ℕ). n < z) (length-set g.parts m (with_cache x h)) below);
    }

    pub recached_counts : (ws : List ℕ) → Counted g.events g.parts ws → Counted g.events (set g.parts m (with_cache x h)) ws
    recached_counts ws counted = subst (Counted g.events (set g.parts m (with_cache x h))) (set-get_or ws 0 0) (counts_found g.events g.parts ws counted m h at (with_cache x h) (λ word. refl) refl 0)

    pub recached_stored : (R : ℕ) (hs : Slots) → Stored R g hs → Stored R (recached g m h x) hs
    recached_stored R hs stored = let t = stored_still R g hs stored m h at (with_cache x h) g.core g.heap (λ _. refl) (λ p. omega arith) in
        record { deep = t.deep; heap_home = t.heap_home; at_home = t.at_home; body_home = t.body_home; taker_lent = t.taker_lent }
