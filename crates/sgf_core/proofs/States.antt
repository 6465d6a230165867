-- What the bytes of a tree lead to after its first parenthesis, byte by byte. No contract speaks of it.
use Rattle.std.proofs.Common.{◌≡◌, ℕ, zero, suc, List, [], ◌∷◌, ◌++◌, refl}
use Rattle.std.specs.Prelude.{◌==◌, if◌then◌else◌}
use Rattle.sgf_core.specs.Bytes.{is_white, is_letter, open_parenthesis, close_parenthesis, semicolon, open_bracket, backslash, close_bracket}

-- where in a tree the bytes end
pub data Phase : Type 0 where
  begun : Phase
  in_node : Phase
  in_name : Phase
  named : Phase
  in_value : Phase
  escaped : Phase
  valued : Phase
  after_tree : Phase

-- no front of a tree; the tree; or less than it, within this many trees beside the innermost
pub data State : Type 0 where
  dead : State
  done : State
  live : (phase : Phase) → (depth : ℕ) → State

abbrev pub closed : ℕ → State
closed zero = done
closed (suc depth) = live after_tree depth

-- a byte after a node's semicolon, or after a value
abbrev pub in_node_step : ℕ → ℕ → State
in_node_step depth byte =
    if byte == semicolon then live in_node depth else
    if is_letter byte then live in_name depth else
    if byte == open_parenthesis then live begun (suc depth) else
    if byte == close_parenthesis then closed depth else dead

abbrev pub step : State → ℕ → State
step dead byte = dead
step done byte = dead
step (live begun depth) byte =
    if is_white byte then live begun depth else if byte == semicolon then live in_node depth else dead
step (live in_node depth) byte =
    if is_white byte then live in_node depth else in_node_step depth byte
step (live in_name depth) byte =
    if is_letter byte then live in_name depth else
    if is_white byte then live named depth else if byte == open_bracket then live in_value depth else dead
step (live named depth) byte =
    if is_white byte then live named depth else if byte == open_bracket then live in_value depth else dead
step (live in_value depth) byte =
    if byte == close_bracket then live valued depth else if byte == backslash then live escaped depth else live in_value depth
step (live escaped depth) byte = live in_value depth
step (live valued depth) byte =
    if is_white byte then live valued depth else
    if byte == open_bracket then live in_value depth else in_node_step depth byte
step (live after_tree depth) byte =
    if is_white byte then live after_tree depth else
    if byte == open_parenthesis then live begun (suc depth) else
    if byte == close_parenthesis then closed depth else dead

abbrev pub run : State → List ℕ → State
run state [] = state
run state (byte ∷ bytes) = run (step state byte) bytes

pub run-append : (state : State) (a b : List ℕ) → run state (a ++ b) ≡ run (run state a) b
run-append state [] b = refl
run-append state (byte ∷ a) b = run-append (step state byte) a b

pub run-dead : (a : List ℕ) → run dead a ≡ dead
run-dead [] = refl
run-dead (byte ∷ a) = run-dead a

-- the phases in which white bytes change nothing
abbrev pub IsBetween : Phase → Type 0
IsBetween begun = Unit {0}
IsBetween in_node = Unit {0}
IsBetween in_name = ⊥
IsBetween named = Unit {0}
IsBetween in_value = ⊥
IsBetween escaped = ⊥
IsBetween valued = Unit {0}
IsBetween after_tree = Unit {0}
