use Rattle.std.proofs.Common.{◌≡◌, ℕ, length}
use Rattle.hashlink_uses.specs.Contents.{content}
use Rattle.hashlink_uses.proofs.pages.PageCache.close.Given as goal

-- the content stays
abbrev pub invariant-loop-self : goal.invariant-loop-self
invariant-loop-self g l =
    (n : ℕ) → content g.T.Store.page l.self n ≡ content g.T.Store.page l.fn.self n

abbrev pub decreases-loop-self : goal.decreases-loop-self
decreases-loop-self g l = length l.self.held
