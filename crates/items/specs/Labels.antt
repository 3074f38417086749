-- Shelf labels: 32-bit numbers.
use Rattle.std.specs.Prelude.{ℕ, ◌+◌, ◌/◌, ◌%◌, Bool, ◌==◌}
use Rattle.items.specs.declared.label.Label.{Label}

-- Labels are the same when their numbers are equal.
abbrev pub same_label : Label → Label → Bool
same_label x y = x.number == y.number

-- The upper sixteen bits plus the lower sixteen, modulo 65,536.
abbrev pub label_mark : Label → ℕ
label_mark x = (x.number / 65536 + x.number % 65536) % 65536
