-- The result of a call of a closure is one that it may return for the pair that it was shown.
use Rattle.hashlink_run.proofs.Names.{refl, ClosureSays}
use Rattle.std.specs.{Borrow.Bor, Fn.{Shared, FnReturns}}

pub said_by : {F K V B : Type 0} {g : Shared F (Bor K × (Bor V × Unit {0})) B} {f : F} {b : B} (key : Bor K)
    (value : Bor V) → FnReturns g f (key, (value, tt)) b → ClosureSays g f key.now value.now b
said_by key value says = record { key = key; value = value; shows = (refl, refl); says = says }
