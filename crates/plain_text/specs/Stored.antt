-- The bytes that a value stores, in itself or elsewhere.
use Rattle.std.specs.Prelude.{ℕ, List, ◌≤◌, ◌<◌, length, take}
use Rattle.plain_text.specs.declared.compact.Stored.{Stored}
use Rattle.plain_text.specs.declared.compact.Stored.TheVariants.{Inline, Boxed}

-- the bytes in order
abbrev pub stored_bytes : Stored → List ℕ
stored_bytes (Inline n room) = take n room
stored_bytes (Boxed bytes) = bytes.value.items

-- no more bytes than there is room for, or more than that elsewhere
abbrev pub IsStoredInPlace : Stored → Type 0
IsStoredInPlace (Inline n room) = n ≤ 14
IsStoredInPlace (Boxed bytes) = 14 < length bytes.value.items
