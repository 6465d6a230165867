-- What stays at a point, kept in words of which 2^63 - 1 stands for nothing.
use Rattle.std.specs.Prelude.{◌≡◌, ℕ, ◌-◌, ◌<◌, ◌==◌, ◌^◌, nat_lt, cond, Option, Some, None, IfSome}
use Rattle.tally_core.specs.declared.stays.Stay.{Stay}
use Rattle.tally_core.specs.declared.stays.Stays.{Stays}

-- the stay that began at an occasion, of the meeting of this index
abbrev pub stay_of : ℕ → ℕ → Option Stay
stay_of at since = cond (at == 9223372036854775807) None (Some (record { meeting = at; since = since }))

-- what stays, where it began at one occasion: from 2^63 on the first says that there may be a second
abbrev pub stays_of : ℕ → ℕ → ℕ → Stays
stays_of square diamond since =
    cond (nat_lt square 9223372036854775808)
    (record { square = Some (record { meeting = square; since = since }); diamond = None })
    (record { square = stay_of (square - 9223372036854775808) since; diamond = stay_of diamond since })

-- a stay, if there is one, began at this occasion
abbrev pub BeginsAt : ℕ → Option Stay → Type 0
BeginsAt since stay = IfSome stay (λ s. (s.since ≡ since) × (s.meeting < 2 ^ 63 - 1))
