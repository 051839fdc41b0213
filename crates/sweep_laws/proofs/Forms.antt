-- The two forms of the ownership rule say the same.
use Rattle.std.proofs.Common.{ℕ, ◌<◌, inl, inr, length, get_or, arith}
use Rattle.sweep_laws.specs.Counts.{times}
use Rattle.sweep_laws.specs.State.{HandState, CoreState}
use Rattle.sweep_laws.specs.OwnedLives.{IsWord}
use Rattle.sweep_laws.specs.Owned.{Owned}
use Rattle.sweep_laws.specs.Standing.{Tally, tally, Standing, is_free, is_unswept, is_sweeping, is_swept, is_stale, is_cached, CoreKept}
use Rattle.sweep_laws.proofs.Totals.{part_le}
use Rattle.sweep_laws.proofs.Standings.{free_word, unswept_word, sweeping_word, swept_word, cached_word, lists_once}

abbrev page_of : CoreState → ℕ → Tally
page_of c p = tally c.generation c.words c.lives c.sets c.hands p

pub kept_of : (c : CoreState) → Owned c → CoreKept c
kept_of c o = record {
  generation = o.lives.generation;
  lives_fit = o.lives.lives;
  pulled = o.lives.pulled;
  page = λ p low. record {
    standing = stands p low (o.lives.lives.word p low);
    waiting = o.once.entries p low;
    listed = o.swept_lists.once p low;
    listed_word = o.swept_lists.word p low;
  };
  sets_fit = o.sets;
  objects = o.objects;
}
  where
    stands : (p : ℕ) → p < length c.words → IsWord c.generation (get_or c.words p 0) → Standing c.generation (page_of c p)
    stands p low (inl e) = is_free e (o.free p low e)
    stands p low (inr (inl e)) = let f = o.unswept p low e in is_unswept e f.nobodys f.once
    stands p low (inr (inr (inl e))) = let f = o.sweeping p low e in is_sweeping e f.one f.no_other
    stands p low (inr (inr (inr (inl e)))) = let f = o.swept p low e in is_swept e f.no_other f.one
    stands p low (inr (inr (inr (inr (inl e))))) = let f = o.cached p low (inl e) in is_stale e f.one f.no_other
    stands p low (inr (inr (inr (inr (inr e))))) = let f = o.cached p low (inr e) in is_cached e f.one f.no_other

pub owned_of : (c : CoreState) → CoreKept c → Owned c
owned_of c k = record {
  lives = record { generation = k.generation; lives = k.lives_fit; pulled = k.pulled };
  free = λ p low e. free_word c.generation (page_of c p) k.generation.low (k.page p low).standing e;
  unswept = λ p low e. let f = unswept_word c.generation (page_of c p) k.generation.low (k.page p low).standing e in record { nobodys = f.0; once = f.1 };
  sweeping = λ p low e. let f = sweeping_word c.generation (page_of c p) k.generation.low (k.page p low).standing e in record { one = f.0; no_other = f.1 };
  swept = λ p low e. let f = swept_word c.generation (page_of c p) k.generation.low (k.page p low).standing e in record { no_other = f.0; one = f.1 };
  cached = λ p low e. let f = cached_word c.generation (page_of c p) k.generation.low (k.page p low).standing e in record { one = f.0; no_other = f.1 };
  once = record {
    lists = λ p low n h at. let l = lists_once c.generation (page_of c p) (k.page p low) in let l₀ = l.0 in let l₁ = l.1 in let l₂ = l.2 in
        let w = (k.page p low).waiting in let s = (k.page p low).listed in record {
          sweeping = let t = part_le (λ (x : HandState). times p x.sweeping) c.hands n h at in omega arith;
          held = let t = part_le (λ (x : HandState). times p x.held) c.hands n h at in omega arith;
          cached = let t = part_le (λ (x : HandState). times p x.cached) c.hands n h at in omega arith;
          popped = let t = part_le (λ (x : HandState). times p x.popped) c.hands n h at in omega arith;
          swept = let t = part_le (λ (x : HandState). times p x.swept) c.hands n h at in omega arith;
        };
    entries = λ p low. (k.page p low).waiting;
  };
  sets = k.sets_fit;
  swept_lists = record {
    once = λ p low. (k.page p low).listed;
    word = λ p low. (k.page p low).listed_word;
  };
  objects = k.objects;
}
