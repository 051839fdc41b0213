-- The pages of a span of a span class.
use Rattle.std.proofs.Common.{◌≡◌, ℕ, ◌*◌, ◌/◌, ◌<◌, ◌≤◌, arith}
use Rattle.size_classes.specs.Classes.{pages_of, IsClass}
use Rattle.page_alloc.specs.FreeRuns.{IsSpanSize}

-- a large one has at least 5
pub large_size : (class pages : ℕ) → class < 2 → 5 ≤ pages → IsSpanSize class pages
large_size class pages low some = ((λ high. absurd (omega arith)), (λ _. some))

-- a small one has those of its size class
pub small_size : (class pages : ℕ) → 2 ≤ class → IsClass (class / 2) → pages ≡ pages_of (class / 2) → IsSpanSize class pages
small_size class pages high is e = ((λ _. (is, e)), (λ low. absurd (omega arith)))

pub class_size : (class pages : ℕ) → IsClass class → pages ≡ pages_of class → IsSpanSize (2 * class) pages
class_size class pages is e =
    let half : (2 * class) / 2 ≡ class = omega arith in
    small_size (2 * class) pages (omega arith) (rw half is) (rw half e)
