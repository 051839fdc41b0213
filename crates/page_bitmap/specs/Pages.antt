-- What a chunk shows: its free pages and its scavenged pages, by numbers from 0 to 511.
use Rattle.std.specs.Prelude.{ℕ, Bool, not, ◌&&◌}
use Rattle.page_bitmap.specs.declared.chunk.Chunk.{Chunk}
use Rattle.page_bitmap.specs.Words.{has_page}

-- the page is a page of the chunk, and belongs to no span
unfoldable pub is_free : Chunk → ℕ → Bool
is_free chunk page = has_page chunk.free_pages.words page

-- no memory stands behind the page
unfoldable pub is_scavenged : Chunk → ℕ → Bool
is_scavenged chunk page = has_page chunk.scavenged_pages.words page

-- the page isn't free
abbrev pub is_taken : Chunk → ℕ → Bool
is_taken chunk page = not (is_free chunk page)

-- the page is free and still backed by memory, so that it can be scavenged
abbrev pub can_scavenge : Chunk → ℕ → Bool
can_scavenge chunk page = is_free chunk page && not (is_scavenged chunk page)
