-- What a run does with a reader and a writer: it reads the input, at most 2 ^ 28 + 1 bytes of it, and writes one text.
use Rattle.std.specs.Prelude.{◌≡◌, ℕ, ◌+◌, ◌⊎◌, List, take, Option, IfSome, Result, MatchResult}
use Rattle.std.specs.Io.KnownBytes.{Appends, Keeps, Consumes}
use Rattle.engine_core.specs.declared.faults.RunFault.{RunFault}
use Rattle.engine_core.specs.declared.faults.RunFault.TheVariants as fault
use Rattle.engine_core.specs.Output.{WroteFront}
use Rattle.sgf_core.specs.Limit.{most_bytes}

-- the bytes of the reader's rest that a run reads
abbrev pub input_of : List ℕ → List ℕ
input_of rest = take (most_bytes + 1) rest

-- the reader gave the bytes of the input, to its end or to one more than a run may have, and no other
abbrev pub ReadInput : Option (List ℕ) → Option (List ℕ) → Type 0
ReadInput rest left = IfSome rest (λ all. Consumes rest left (input_of all))

-- a run has read its input, however it ends, unless the reader failed or memory was wanting
abbrev pub HasRead : {A : Type 0} → Result A RunFault → Option (List ℕ) → Option (List ℕ) → Type 0
HasRead result rest left =
    MatchResult result (λ _. ReadInput rest left)
    (λ found. (found ≡ fault.Read) ⊎ (found ≡ fault.Memory) ⊎ ReadInput rest left)

-- the input has such a text, and all of it was written and nothing else
abbrev pub Wrote : (List ℕ → List ℕ → Type 0) → Option (List ℕ) → Option (List ℕ) → Option (List ℕ) → Type 0
Wrote IsText rest before after =
    IfSome rest (λ all. (text : List ℕ) × IsText (input_of all) text × Appends before after text)

-- after a failed write a front of the text is out; after any other fault nothing is, and its cause is in the input
-- unless the reader failed
abbrev pub IsRunFault : (List ℕ → List ℕ → Type 0) → (List ℕ → RunFault → Type 0) → Option (List ℕ) → Option (List ℕ) → Option (List ℕ) → RunFault → Type 0
IsRunFault IsText IsCause rest before after (fault.Write written) =
    IfSome rest (λ all. (text : List ℕ) × IsText (input_of all) text × WroteFront before after text (fault.Write written))
IsRunFault IsText IsCause rest before after fault.Read = Keeps before after
IsRunFault IsText IsCause rest before after found = Keeps before after × IfSome rest (λ all. IsCause (input_of all) found)
