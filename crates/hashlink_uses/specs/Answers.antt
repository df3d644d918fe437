-- Addresses that are valid until a time.
use Rattle.std.specs.Prelude.{ℕ, Bool, cond, nat_lt, Option, None, Some}
use Rattle.hashlink_uses.specs.declared.names.Answer.{Answer}

-- whether an address is valid at a time; the address if it is
abbrev pub holds_at : ℕ → Answer → Bool
holds_at now answer = nat_lt now answer.expires

abbrev pub address_at : ℕ → Answer → Option ℕ
address_at now answer = cond (holds_at now answer) (Some answer.address) None
