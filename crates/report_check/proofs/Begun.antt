-- A replay that begins.
use Rattle.std.proofs.Common.{◌≡◌, ℕ, ◌+◌, ◌*◌, ◌<◌, List, [], ◌∷◌, ◌++◌, length, get_or, None, refl, sym, ◌∙◌, ap, arith, inl, inr}
use Rattle.std.proofs.Math.ListN.{get_or-append}
use Rattle.std.proofs.Math.Seq.{get_or-append_seam}
use Rattle.std.proofs.lemmas.Bool.{cases_lt}
use Rattle.page_cache.specs.Cache.{Cache, only}
use Rattle.report_check.specs.declared.replay.Replay.{Replay}
use Rattle.report_check.specs.Replays.{Begins, IsReplayOf, cache_at, procs_in}
use Rattle.report_check.proofs.Steps.{as-replay, past-idle}

-- one cache more
pub empty-more : (caches : List Cache) (n : ℕ) (cache : Cache) → length caches ≡ n → cache ≡ only n None → ((q : ℕ) → q < n → cache_at caches q ≡ only q None)
    → (q : ℕ) → q < n + 1 → cache_at (caches ++ cache ∷ []) q ≡ only q None
empty-more caches n cache count is empty q lt = elim (cases_lt q n) [
  | inl before ↦ get_or-append caches (cache ∷ []) (only q None) q (omega arith) ∙ empty q before
  | inr after ↦ (
      let here : q ≡ length caches = omega arith in
      let at : get_or (caches ++ cache ∷ []) (length caches) (only q None) ≡ cache = get_or-append_seam caches cache [] (only q None) in
      ap (λ (k : ℕ). get_or (caches ++ cache ∷ []) k (only q None)) here ∙ at ∙ is ∙ ap (λ (k : ℕ). only k None) (sym (here ∙ count)))
]

-- no line, and empty caches
begun : (caches : List Cache) (region goal : ℕ) → ((q : ℕ) → q < length caches → cache_at caches q ≡ only q None) → IsReplayOf (length caches) region goal [] [] caches None 0 0
begun caches region goal empty = record {
  legal = tt;
  settled_legal = tt;
  newest = refl;
  of_cycle = λ block there. absurd there;
  count = refl;
  cut = refl;
  each = λ q lt. (let e = empty q lt in record {
    proc = ap (λ (k : Cache). k.proc) e;
    block = inl (e, λ block there. absurd there);
  });
  uncut = λ q lt ne. ap (λ (k : Cache). k.cuts) (empty q lt);
}

pub begins : (r : Replay) (procs chunks goal : ℕ) → length r.caches.items ≡ procs → ((q : ℕ) → q < procs → cache_at r.caches.items q ≡ only q None) → r.pages.region ≡ 512 * chunks → r.pages.goal ≡ goal
    → r.pages.past ≡ [] → r.cutting ≡ None → r.cycle ≡ 0 → r.out ≡ 0 → Begins procs chunks goal r
begins r procs chunks goal count empty region goal_is past cutting cycle out = record {
  sound = as-replay r (procs_in r) r.pages.region r.pages.goal [] [] r.caches.items None 0 0
      (record { is_procs = refl; is_region = refl; is_goal = refl; is_settled = past; is_past = past-idle r cutting ∙ past; is_caches = refl; is_cutting = cutting; is_cycle = cycle; is_out = out })
      (begun r.caches.items r.pages.region r.pages.goal (λ q lt. empty q (omega arith)));
  procs = count;
  region = region;
  goal = goal_is;
  past = past-idle r cutting ∙ past;
}
