-- A value with one more digit at its end.
use Rattle.std.specs.Prelude.{Option, Some, None, ℕ, ◌+◌, ◌*◌, ◌^◌, nat_lt, if◌then◌else◌}

-- None for a value that is over already, and for one that goes over.
abbrev pub longer_value : Option ℕ → ℕ → Option ℕ
longer_value None digit = None
longer_value (Some v) digit = if nat_lt (v * 10 + digit) (2 ^ 64) then Some (v * 10 + digit) else None
