-- The limits of a script, and the first number past each. Source: this project's own.
use Rattle.std.specs.Prelude.{◌≡◌, ℕ, ⊤, ◌+◌, nat_lt, length, Option, Some, None, if◌then◌else◌}
use Rattle.array_model.specs.Kept.{ScriptState}
use Rattle.run_script.specs.declared.order.Order.{Order}
use Rattle.run_script.specs.declared.order.Order.TheVariants.{Operation, Turns, ClientTurns}
use Rattle.run_script.specs.declared.fault.ScriptFault.{ScriptFault}
use Rattle.run_script.specs.declared.fault.ScriptFault.TheVariants.{Memory, Line, Limit}
use Rattle.run_script.specs.declared.fault.LimitKind.TheVariants as limits
use Rattle.run_script.specs.declared.limits.TheConstants.{MAX_OPS, MAX_TURNS, MAX_CLIENT}

-- so many operations are too many, a client is too high, so many turns are too many
abbrev pub ops_limit : ℕ → Option ScriptFault
ops_limit count = if nat_lt MAX_OPS count then Some (Limit limits.Ops (MAX_OPS + 1)) else None

abbrev pub client_limit : ℕ → Option ScriptFault
client_limit client = if nat_lt MAX_CLIENT client then Some (Limit limits.Clients client) else None

abbrev pub turns_limit : ℕ → Option ScriptFault
turns_limit count = if nat_lt MAX_TURNS count then Some (Limit limits.Turns (MAX_TURNS + 1)) else None

-- the first of two
abbrev pub or_else : Option ScriptFault → Option ScriptFault → Option ScriptFault
or_else (Some fault) other = Some fault
or_else None other = other

-- the first limit that an order passes, behind what a script asks for already
abbrev pub limit_of : ScriptState → Order → Option ScriptFault
limit_of s (Operation client kind) = or_else (ops_limit (length s.ops + 1)) (client_limit client)
limit_of s (Turns turn count) = turns_limit (length s.turns + count)
limit_of s (ClientTurns client count) = or_else (client_limit client) (turns_limit (length s.turns + count))

-- a fault is the limit, or want of memory
abbrev pub Refuses : Option ScriptFault → ScriptFault → Type 0
Refuses limit Memory = ⊤
Refuses limit (Line number kind) = limit ≡ Some (Line number kind)
Refuses limit (Limit kind number) = limit ≡ Some (Limit kind number)
