use Rattle.std.proofs.Common.{eqb, w8, arith}
use Rattle.std.proofs.lemmas.Simd.{bitmask_splat, length-chunk}
use Rattle.std.specs.Simd.Lanes.{chunk}
use Rattle.edge_io.proofs.Lanes.{feed_near, no_feed_near}
use Rattle.edge_io.proofs.feed.before_feed.Goals as goal

pub returns-then-feeds-eq0 : goal.returns-then-feeds-eq0
returns-then-feeds-eq0 c =
    let b = c.args.bytes.now in
    let at = c.args.at in
    let mask = bitmask_splat w8 eqb (chunk at 32 b) 32 10 (length-chunk at 32 b c.requires) (omega arith) in
    no_feed_near b at _ c.requires mask c.if-feeds-eq0.true

pub returns-else-feeds-eq0 : goal.returns-else-feeds-eq0
returns-else-feeds-eq0 c =
    let b = c.args.bytes.now in
    let at = c.args.at in
    let mask = bitmask_splat w8 eqb (chunk at 32 b) 32 10 (length-chunk at 32 b c.requires) (omega arith) in
    feed_near b at _ c.requires mask c.if-feeds-eq0.false
