-- The laws that a caller cites: the object count is one to the limit.
use Rattle.std.proofs.Common.{◌+◌, ◌≤◌, ◌<◌, leb, arith}
use borrow.Author.Tests.{leb-true}
use Rattle.bits.proofs.Always.{Always, after, required, given}
use Rattle.standard.specs.Numbers.{object_limit}
use Rattle.standard.specs.Assignment.{object_count}

pub object_count-is : Always (λ n. (0 < n) × (n ≤ object_limit)) object_count
unfolding object_count
object_count-is = after _ _ λ at. after _ _ λ v. required (leb (v + 1) object_limit) _ λ h. given (v + 1) (omega arith, leb-true _ _ h)
