use Rattle.std.proofs.Common.{◌≡◌, ◌≢◌, ◌+◌, [], length, IfSome, IfNone, sym, subst, ℕ, List, rules, arith}
use Rattle.std.proofs.lemmas.Grind.{common_steps}
use Rattle.hits_core.specs.WordLists.{first_line, other_lines, HasWord, IsBadLine}
use Rattle.hits_core.specs.Inner.WordLists.{IsReadUpTo}
use Rattle.hits_core.proofs.Lines.{read-on, read-ends, read-stops}
use Rattle.hits_core.proofs.word_lists.words_of.Goals as goal

pub returns-in_default-clause-fault : goal.returns-in_default-clause-fault
returns-in_default-clause-fault c =
    let rest = c.loop-rest.rest.now in
    let some : rest ≢ [] = Prim.first_of (Prim.search rules, Prim.grind (arith, common_steps)) in
    let none : (word : ℕ) → HasWord (first_line rest) word → ⊥ =
    subst (λ (line : List ℕ). (word : ℕ) → HasWord line word → ⊥) c.split_line.ensures.line
    (subst (λ o. IfNone o ((word : ℕ) → HasWord c.split_line.result.0.now word → ⊥)) c.in_default.is c.word_of.ensures.only) in
    let count : c.len.result ≡ length c.loop-rest.words.items = Prim.first_of (Prim.search rules, Prim.grind (arith, common_steps)) in
    subst (λ n. IsBadLine c.args.bytes.now (n + 1)) (sym count) (read-stops c.args.bytes.now rest c.loop-rest.words.items c.loop-rest.invariant some none)

pub loop-rest-preserved : goal.loop-rest-preserved
loop-rest-preserved c =
    let rest = c.loop-rest.rest.now in
    let some : rest ≢ [] = Prim.first_of (Prim.search rules, Prim.grind (arith, common_steps)) in
    let has : HasWord (first_line rest) c.in-Some.word =
    subst (λ (line : List ℕ). HasWord line c.in-Some.word) c.split_line.ensures.line
    (subst (λ o. IfSome o (HasWord c.split_line.result.0.now)) c.in-Some.is c.word_of.ensures.found) in
    subst (λ (left : List ℕ). IsReadUpTo c.args.bytes.now left c.push.new.self.items) (sym c.split_line.ensures.others)
    (subst (λ (words : List ℕ). IsReadUpTo c.args.bytes.now (other_lines rest) words) (sym c.in_ok-push.ensures.items)
    (read-on c.args.bytes.now rest c.loop-rest.words.items c.in-Some.word c.loop-rest.invariant some has))

pub returns-clause-words : goal.returns-clause-words
returns-clause-words c =
    let none : c.loop-rest.rest.now ≡ [] = Prim.first_of (Prim.search rules, Prim.grind (arith, common_steps)) in
    read-ends c.args.bytes.now c.loop-rest.rest.now c.loop-rest.words.items c.loop-rest.invariant none
