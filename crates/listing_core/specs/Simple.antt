-- Simple text, as SGF FF[4] reads it from the bytes of a value: a backslash takes the meaning away from the byte after it; a line
-- break is a line feed, a carriage return, or both in either order; one after a backslash is nothing, and any other is a space,
-- as is each other white byte. So the text is one line without tabs.
use Rattle.std.specs.Prelude.{ℕ, ◌==◌, ◌||◌, Bool, true, false, List, [], ◌∷◌, if◌then◌else◌}
use Rattle.sgf_core.specs.Bytes.{is_white, backslash}
use Rattle.listing_core.specs.declared.simple.After.{After}
use Rattle.listing_core.specs.declared.simple.After.TheVariants as after

abbrev pub feed : ℕ
feed = 10

abbrev pub carriage_return : ℕ
carriage_return = 13

-- the byte is the second one of a line break
abbrev pub ends_break : After → ℕ → Bool
ends_break after.Plain byte = false
ends_break after.Backslash byte = false
ends_break after.Return byte = byte == feed
ends_break after.Feed byte = byte == carriage_return

-- a byte of a line break
abbrev pub breaks : ℕ → Bool
breaks byte = byte == feed || byte == carriage_return

-- a backslash comes before the byte, and takes its meaning away
abbrev pub is_escaped : After → Bool
is_escaped after.Plain = false
is_escaped after.Backslash = true
is_escaped after.Return = false
is_escaped after.Feed = false

-- whether nothing stands for the byte: it is the second one of a line break, a line break or a part of one after a backslash, or a
-- backslash that takes the meaning of the next byte away
abbrev pub is_left_out : After → ℕ → Bool
is_left_out before byte =
    ends_break before byte || (if is_escaped before then breaks byte else byte == backslash)

-- what stands for a byte that is not left out
abbrev pub text_byte : ℕ → ℕ
text_byte byte = if is_white byte then 32 else byte

-- what a byte means for the one after it, where it is not the second one of a line break
abbrev pub meaning : After → ℕ → After
meaning before byte =
    if byte == feed then after.Feed
    else (if byte == carriage_return then after.Return
    else (if is_escaped before then after.Plain
    else (if byte == backslash then after.Backslash else after.Plain)))

abbrev pub next : After → ℕ → After
next before byte = if ends_break before byte then after.Plain else meaning before byte

-- the text of these bytes, where this comes before them
abbrev pub text_after : After → List ℕ → List ℕ
text_after before [] = []
text_after before (byte ∷ bytes) =
    if is_left_out before byte then text_after (next before byte) bytes else text_byte byte ∷ text_after (next before byte) bytes

abbrev pub simple_text : List ℕ → List ℕ
simple_text bytes = text_after after.Plain bytes
