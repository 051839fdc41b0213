-- The first line feed of 32 bytes.
use Rattle.std.proofs.Common.{◌≡◌, ◌≢◌, ℕ, ◌+◌, ◌≤◌, List, length, eqb, cond, refl, map, not, ap, ◌∙◌, arith}
use Rattle.std.proofs.lemmas.Bool.{eqb-false, eqb-true, ne_eqb}
use Rattle.std.proofs.lemmas.Simd.{first_set_mask_l, length-chunk, run_in_chunk_le, run_in_chunk_fails, run_in_chunk_stops}
use Rattle.std.specs.Simd.Lanes.{chunk, mask_l}
use Rattle.std.specs.List.{prefix_len}
use lib.Count.{count_trailing_zeros}
use Rattle.edge_io.specs.Line.{StopsAtFeed}

-- what the lowest bit of a mask says, where bit k is set if byte k is a line feed
stops_at_feed : (b : List ℕ) (s m r : ℕ) → s + 32 ≤ length b → m ≡ mask_l (map (λ byte. eqb byte 10) (chunk s 32 b))
    → r ≡ cond (eqb m 0) 32 (count_trailing_zeros 64 m) → StopsAtFeed b s r
stops_at_feed b s m r room mask lowest =
    let is_feed = λ (byte : ℕ). eqb byte 10 in
    let xs = chunk s 32 b in
    let counted : r ≡ prefix_len (λ byte. not (eqb byte 10)) xs =
    lowest ∙ ap (λ (n : ℕ). cond (eqb n 0) 32 (count_trailing_zeros 64 n)) mask ∙ first_set_mask_l is_feed xs 32 (length-chunk s 32 b room) (omega arith) in
    record {
      short = run_in_chunk_le is_feed b s 32 r 0 room counted;
      clear = λ k below. eqb-false _ 10 (run_in_chunk_fails is_feed b s 32 r 0 room counted (s + k) (omega arith) (omega arith));
      feed = λ below. eqb-true _ 10 (run_in_chunk_stops is_feed b s 32 r 0 room counted below);
    }

-- no bit is set
pub no_feed_near : (b : List ℕ) (s m : ℕ) → s + 32 ≤ length b → m ≡ mask_l (map (λ byte. eqb byte 10) (chunk s 32 b)) → m ≡ 0 → StopsAtFeed b s 32
no_feed_near b s m room mask none = stops_at_feed b s m 32 room mask (rw none refl)

-- a bit is set
pub feed_near : (b : List ℕ) (s m : ℕ) → s + 32 ≤ length b → m ≡ mask_l (map (λ byte. eqb byte 10) (chunk s 32 b)) → m ≢ 0
    → StopsAtFeed b s (count_trailing_zeros 64 m)
feed_near b s m room mask some = stops_at_feed b s m _ room mask (rw (ne_eqb m 0 some) refl)
