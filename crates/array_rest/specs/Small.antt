-- A small mirror that is asked to write a sector and to read it. Source: this project's own.
use Rattle.std.specs.Prelude.{[], ◌∷◌}
use Rattle.array_rows.specs.SmallSettings.{Small}
use Rattle.array_rows.specs.Containers.{mirror}
use Rattle.array_rows.specs.Scripts.{with_ops, writes, reads}

abbrev pub asked_mirror : Small
asked_mirror = with_ops (writes 0 0 5 ∷ reads 0 0 5 ∷ []) (mirror 1024)
