-- At the start nothing is named.
use Rattle.std.proofs.Common.{◌≡◌, ℕ, List, [], sym, ap}
use Rattle.std.specs.List.{range_with_len}
use Rattle.sweep_laws.specs.Reading.{no_hand, no_set}
use Rattle.sweep_laws.specs.Start.{copies, new_state}
use Rattle.sweep_laws.specs.State.{SetState, HandState}
use Rattle.sweep_laws.proofs.NewOwned.{each_mapped}
use Rattle.worker_log.specs.declared.Entry.{Entry}
use Rattle.swept_set_laws.specs.Entered.{EnteredIn, log_of}
use Rattle.swept_set_laws.proofs.EnteredRest.{empty_enters}

pub new_names : (pages workers : ℕ) (logs : List (List Entry)) (names : ℕ → ℕ → ℕ) → ((n : ℕ) → log_of logs n ≡ []) → EnteredIn (new_state pages workers) logs names
new_names pages workers logs names silent =
    empty_enters 4 _ (copies pages 0) [] (copies 544 no_set) (copies workers no_hand) logs names
    (λ k s at part. (let same = each_mapped no_set (range_with_len 0 544) k s at in (ap (λ (x : SetState). x.head) (sym same), ap (λ (x : SetState). x.tail) (sym same))))
    (λ n h at. ap (λ (x : HandState). x.claimed) (sym (each_mapped no_hand (range_with_len 0 workers) n h at))) silent
