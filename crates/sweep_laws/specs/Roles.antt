-- What a generation word says of the span that begins at its page.
use Rattle.std.specs.Prelude.{ℕ, ◌+◌, ◌-◌, ◌==◌, if◌then◌else◌}
use Rattle.sweep_laws.specs.declared.roles.Role.{Role}
use Rattle.sweep_laws.specs.declared.roles.Role.TheVariants.{Nothing, Unswept, Sweeping, Swept, StaleCached, Cached, Foreign}

-- the role of a word at a generation
abbrev pub role_of : ℕ → ℕ → Role
role_of word g =
    if word == 0 then Nothing
    else (if word == g - 2 then Unswept
    else (if word == g - 1 then Sweeping
    else (if word == g then Swept
    else (if word == g + 1 then StaleCached
    else (if word == g + 3 then Cached
    else Foreign)))))
