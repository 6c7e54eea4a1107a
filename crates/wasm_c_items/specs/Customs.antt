-- Which known section a custom section's name is that of, as a number. Core specification, Appendix, Custom Sections,
-- and the tool conventions.
use Rattle.std.specs.Prelude.{ℕ, List, codes, bytes_eq, nat_eq, if◌then◌else◌}
use Rattle.std.specs.List.{starts_with}

-- | which known section has a name <Appendix, Custom Sections; tool conventions>
abbrev pub custom_kind : List ℕ → ℕ
custom_kind name =
    if bytes_eq name (codes "name") then 1
    else if bytes_eq name (codes "metadata.code.branch_hint") then 2
    else if bytes_eq name (codes "producers") then 3
    else if bytes_eq name (codes "dylink.0") then 4
    else if bytes_eq name (codes "core") then 7
    else if bytes_eq name (codes "coremodules") then 8
    else if bytes_eq name (codes "coreinstances") then 9
    else if bytes_eq name (codes "corestack") then 10
    else if bytes_eq name (codes "linking") then 5
    else if starts_with nat_eq name (codes "reloc.") then 6
    else 0
