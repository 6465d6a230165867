use Rattle.std.proofs.Common.{◌≡◌, ◌^◌, ◌++◌, ℕ, List, [], ◌∷◌, length, map, take, drop, Some, None, slice_set, slice_index_or, ap, ◌∙◌, sym}
use Rattle.std.proofs.lemmas.List.{map-set}
use Rattle.probe_core.specs.declared.calls.Call.{Call}
use Rattle.probe_core.specs.declared.events.Finished.{Finished}
use Rattle.probe_core.specs.declared.halls.UnderWay.{UnderWay}
use Rattle.probe_core.specs.Machine.{Machine, Runs, Answers, follows, place_in}
use Rattle.probe_core.specs.World.{words_after}
use Rattle.probe_core.specs.Inner.Hall.{world_of, call_of, running_of}
use Rattle.probe_core.proofs.Callers.{settled_runs, settled_answers, ordered_after, shown_at}
use Rattle.probe_core.proofs.Taking.{past_words, past_followed, on_is, done_is, followed_past}
use Rattle.probe_core.proofs.Lending.{lent_whole}
use Rattle.probe_core.proofs.halls.Hall.go_on.Goals as goal

pub returns-in-On-clause-world : goal.returns-in-On-clause-world
returns-in-On-clause-world g c =
    let self = c.args.self.now
    in let probe = c.args.call.probe
    in let items : List ℕ = self.words.items
    in let now : List ℕ = c.deref_mut.result.now
    in let new : List ℕ = c.advance.new.words
    in let m : Machine = probe.machine
    in let p : ℕ = place_in (g.O.ProbeOrder.place_of self.order) m
    in let back : take self.words.len (new ++ drop (length new) items) ≡ new =
    lent_whole items new self.words.len (c.advance.auto.words ∙ ap length c.deref_mut.ensures.value) (sym c.deref_mut.ensures.len ∙ ap length c.deref_mut.ensures.value)
    in let wrote : new ≡ words_after items m p =
    past_words g.O.ProbeOrder.place_of self.order items now new probe c.deref_mut.ensures.value c.requires.ordered c.in-On.ensures.words
    in let is : (followed_past g.O.ProbeOrder.exponent g.O.ProbeOrder.place_of now probe ≡ Runs c.in-On.probe.machine) × (c.in-On.probe.order ≡ probe.order) =
    on_is probe.order (followed_past g.O.ProbeOrder.exponent g.O.ProbeOrder.place_of now probe) c.in-On.probe c.in-On.ensures.turn
    in let again : UnderWay g.row.O.Denot = record { probe = c.in-On.probe; since = c.args.call.since }
    in settled_runs (world_of self) c.args.caller (call_of c.args.call) (words_after items m p) (take self.words.len (new ++ drop (length new) items))
    (follows (2 ^ g.O.ProbeOrder.exponent self.order) m p (slice_index_or items p 0)) c.in-On.probe.machine
    (map running_of (slice_set self.callers.items c.args.caller (Some again)))
    (past_followed g.O.ProbeOrder.exponent g.O.ProbeOrder.place_of self.order items now probe c.deref_mut.ensures.value c.requires.ordered ∙ is.0)
    (back ∙ wrote)
    (map-set running_of self.callers.items c.args.caller (Some again))

pub returns-in-On-clause-fitted : goal.returns-in-On-clause-fitted
returns-in-On-clause-fitted g c =
    let self = c.args.self.now
    in let probe = c.args.call.probe
    in let items : List ℕ = self.words.items
    in let now : List ℕ = c.deref_mut.result.now
    in let new : List ℕ = c.advance.new.words
    in let long : length new ≡ length items = c.advance.auto.words ∙ ap length c.deref_mut.ensures.value
    in let back : take self.words.len (new ++ drop (length new) items) ≡ new =
    lent_whole items new self.words.len long (sym c.deref_mut.ensures.len ∙ ap length c.deref_mut.ensures.value)
    in let is : (followed_past g.O.ProbeOrder.exponent g.O.ProbeOrder.place_of now probe ≡ Runs c.in-On.probe.machine) × (c.in-On.probe.order ≡ probe.order) =
    on_is probe.order (followed_past g.O.ProbeOrder.exponent g.O.ProbeOrder.place_of now probe) c.in-On.probe c.in-On.ensures.turn
    in let again : UnderWay g.row.O.Denot = record { probe = c.in-On.probe; since = c.args.call.since }
    in record {
      whole = ap length back ∙ long ∙ c.requires.fitted.whole;
      ordered = ordered_after self.order self.callers.items c.args.caller (Some again) c.requires.fitted.ordered
          (λ call e. let same : again ≡ call = cc in ap (λ u. u.probe.order) (sym same) ∙ is.1 ∙ c.requires.ordered);
    }

pub returns-in-Done-clause-world : goal.returns-in-Done-clause-world
returns-in-Done-clause-world g c =
    let self = c.args.self.now
    in let probe = c.args.call.probe
    in let items : List ℕ = self.words.items
    in let now : List ℕ = c.deref_mut.result.now
    in let new : List ℕ = c.advance.new.words
    in let m : Machine = probe.machine
    in let p : ℕ = place_in (g.O.ProbeOrder.place_of self.order) m
    in let back : take self.words.len (new ++ drop (length new) items) ≡ new =
    lent_whole items new self.words.len (c.advance.auto.words ∙ ap length c.deref_mut.ensures.value) (sym c.deref_mut.ensures.len ∙ ap length c.deref_mut.ensures.value)
    in let wrote : new ≡ words_after items m p =
    past_words g.O.ProbeOrder.place_of self.order items now new probe c.deref_mut.ensures.value c.requires.ordered c.in-Done.ensures.words
    in let is : followed_past g.O.ProbeOrder.exponent g.O.ProbeOrder.place_of now probe ≡ Answers c.in-Done.answer =
    done_is probe.order (followed_past g.O.ProbeOrder.exponent g.O.ProbeOrder.place_of now probe) c.in-Done.answer c.in-Done.ensures.turn
    in let ended : Call → Finished = λ asked. record { caller = c.args.caller; call = asked; answer = c.in-Done.answer; begun = c.args.call.since; ended = self.events }
    in settled_answers (world_of self) c.args.caller (call_of c.args.call) (words_after items m p) (take self.words.len (new ++ drop (length new) items))
    (follows (2 ^ g.O.ProbeOrder.exponent self.order) m p (slice_index_or items p 0)) c.in-Done.answer c.push_reserved.new.self.items
    (past_followed g.O.ProbeOrder.exponent g.O.ProbeOrder.place_of self.order items now probe c.deref_mut.ensures.value c.requires.ordered ∙ is)
    (back ∙ wrote)
    (shown_at self.callers.items c.args.caller None c.requires.idle)
    (c.push_reserved.ensures.items ∙ ap (λ asked. self.finished.items ++ ended asked ∷ []) c.call-asked.ensures)
