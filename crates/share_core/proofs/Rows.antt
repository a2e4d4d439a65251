-- Runs of two clients that are written out: each has one command of one node, and both nodes have one key.
use Rattle.std.proofs.Common.{◌≡◌, ℕ, true, false, List, [], ◌∷◌, drop, Option, Some, None, refl, inl, inr, nat_eq, nat_lt, if◌then◌else◌}
use Rattle.memo_core.specs.Memo.{Entry, JournalRecord, journal_record, ProbeAnswer, FillAnswer}
use Rattle.share_core.specs.Views.{NodeProgress, Unasked, Missed, Built, There, ClientProgress, ClientTasks, Machine}
use Rattle.share_core.specs.Steps.{is_possible, StepsMachine, first_machine}
use Rattle.share_core.specs.Runs.{Runs}
use Rattle.share_core.specs.declared.event.Act.{Act}
use Rattle.share_core.specs.declared.event.Act.TheVariants.{Command, Probe, Build, Fill, Reply}
use Rattle.share_core.specs.declared.event.Event.{Event}

abbrev tasks : ClientTasks ℕ ℕ ℕ
tasks = record {
  commands = λ client. if nat_lt client 2 then 1 else 0;
  nodes = λ client command. 1;
  key = λ client command node. 7;
  ready = λ client command node have. true;
  reply = λ client command. 35;
}

-- all keys have one name
abbrev name_of : ℕ → List ℕ
name_of key = 0 ∷ []

-- 5 fits every key, and weighs itself
abbrev IsFive : ℕ → ℕ → Type 0
IsFive key value = value ≡ 5

abbrev itself : ℕ → ℕ
itself value = value

abbrev TwoRun : Machine ℕ ℕ ℕ → List Event → List Event → Machine ℕ ℕ ℕ → Type 0
TwoRun = Runs nat_eq name_of IsFive itself tasks

abbrev TwoStep : Machine ℕ ℕ ℕ → Event → Machine ℕ ℕ ℕ → Type 0
TwoStep = StepsMachine nat_eq name_of IsFive itself tasks

abbrev event : ℕ → Act → Event
event client act = record { client = client; act = act }

abbrev entry : Entry ℕ ℕ
entry = record { header = record { name = 0 ∷ []; key = 7; weight = 5; owner = 0 }; value = 5 }

abbrev part : Option (List (NodeProgress ℕ)) → List ℕ → ClientProgress ℕ ℕ
part nodes replies = record { nodes = nodes; replies = replies }

abbrev idle : ClientProgress ℕ ℕ
idle = part None []

abbrev at : NodeProgress ℕ → ClientProgress ℕ ℕ
at node = part (Some (node ∷ [])) []

abbrev answered : ClientProgress ℕ ℕ
answered = part None (35 ∷ [])

abbrev machine : List (Entry ℕ ℕ) → List (JournalRecord ℕ) → ClientProgress ℕ ℕ → ClientProgress ℕ ℕ → Machine ℕ ℕ ℕ
machine entries journal first second = record {
  memo = record { entries = entries; dropped = []; budget = 10; share = 0; journal = journal; spare = 0 };
  parts = first ∷ second ∷ [];
}

abbrev miss : ℕ → JournalRecord ℕ
miss client = journal_record client 7 (ProbeAnswer false)

abbrev hit : ℕ → JournalRecord ℕ
hit client = journal_record client 7 (ProbeAnswer true)

abbrev kept : ℕ → JournalRecord ℕ
kept client = journal_record client 7 (FillAnswer 5 true 0)

-- ---- both probe before one fills
abbrev both_miss : List Event
both_miss =
    event 0 Command ∷ event 1 Command ∷ event 0 (Probe 0) ∷ event 1 (Probe 0) ∷ event 0 (Build 0)
    ∷ event 0 (Fill 0) ∷ event 1 (Build 0) ∷ event 1 (Fill 0) ∷ event 1 Reply ∷ event 0 Reply ∷ []

both_answer : TwoRun (first_machine 2 10 0) both_miss both_miss
    (machine (entry ∷ []) (miss 0 ∷ miss 1 ∷ kept 0 ∷ kept 1 ∷ []) answered answered)
both_answer =
    inr (
      refl,
      (
        machine [] [] (at Unasked) idle,
        drop 1 both_miss,
        (idle, at Unasked, refl, (refl, refl), refl),
        refl,
        inr (
          refl,
          (
            machine [] [] (at Unasked) (at Unasked),
            drop 2 both_miss,
            (idle, at Unasked, refl, (refl, refl), refl),
            refl,
            inr (
              refl,
              (
                machine [] (miss 0 ∷ []) (at Missed) (at Unasked),
                drop 3 both_miss,
                (at Unasked, at Missed, refl, (refl, refl), refl),
                refl,
                inr (
                  refl,
                  (
                    machine [] (miss 0 ∷ miss 1 ∷ []) (at Missed) (at Missed),
                    drop 4 both_miss,
                    (at Unasked, at Missed, refl, (refl, refl), refl),
                    refl,
                    inr (
                      refl,
                      (
                        machine [] (miss 0 ∷ miss 1 ∷ []) (at (Built 5 5)) (at Missed),
                        drop 5 both_miss,
                        (at Missed, at (Built 5 5), refl, (5, 5, refl, refl, refl, refl), refl),
                        refl,
                        inr (
                          refl,
                          (
                            machine (entry ∷ []) (miss 0 ∷ miss 1 ∷ kept 0 ∷ []) (at (There 5)) (at Missed),
                            drop 6
                                both_miss,
                            (at (Built 5 5), at (There 5), refl, (5, 5, refl, refl, refl), refl),
                            refl,
                            inr (
                              refl,
                              (
                                machine (entry ∷ []) (miss 0 ∷ miss 1 ∷ kept 0 ∷ []) (at (There 5)) (at (Built 5 5)),
                                drop 7
                                    both_miss,
                                (at Missed, at (Built 5 5), refl, (5, 5, refl, refl, refl, refl), refl),
                                refl,
                                inr (
                                  refl,
                                  (
                                    machine (entry ∷ []) (miss 0 ∷ miss 1 ∷ kept 0 ∷ kept 1 ∷ []) (at (There 5)) (at (There 5)),
                                    drop 8 both_miss,
                                    (at (Built 5 5), at (There 5), refl, (5, 5, refl, refl, refl), refl),
                                    refl,
                                    inr (
                                      refl,
                                      (
                                        machine (entry ∷ []) (miss 0 ∷ miss 1 ∷ kept 0 ∷ kept 1 ∷ []) (at (There 5)) answered,
                                        drop 9
                                            both_miss,
                                        (at (There 5), answered, refl, (refl, refl), refl),
                                        refl,
                                        inr (
                                          refl,
                                          (
                                            machine (entry ∷ []) (miss 0 ∷ miss 1 ∷ kept 0 ∷ kept 1 ∷ []) answered answered,
                                            drop 10
                                                both_miss,
                                            (at (There 5), answered, refl, (refl, refl), refl),
                                            refl,
                                            (refl, refl),
                                          ),
                                        ),
                                      ),
                                    ),
                                  ),
                                ),
                              ),
                            ),
                          ),
                        ),
                      ),
                    ),
                  ),
                ),
              ),
            ),
          ),
        ),
      ),
    )

-- ---- the second probes after the first has filled: it is hit, and builds and fills nothing
abbrev one_hit : List Event
one_hit =
    event 0 Command ∷ event 1 Command ∷ event 0 (Probe 0) ∷ event 0 (Build 0) ∷ event 0 (Fill 0)
    ∷ event 1 (Probe 0) ∷ event 1 (Build 0) ∷ event 1 (Fill 0) ∷ event 1 Reply ∷ event 0 Reply ∷ []

abbrev one_hit_taken : List Event
one_hit_taken =
    event 0 Command ∷ event 1 Command ∷ event 0 (Probe 0) ∷ event 0 (Build 0) ∷ event 0 (Fill 0)
    ∷ event 1 (Probe 0) ∷ event 1 Reply ∷ event 0 Reply ∷ []

one_is_hit : TwoRun (first_machine 2 10 0) one_hit one_hit_taken
    (machine (entry ∷ []) (miss 0 ∷ kept 0 ∷ hit 1 ∷ []) answered answered)
one_is_hit =
    inr (
      refl,
      (
        machine [] [] (at Unasked) idle,
        drop 1 one_hit_taken,
        (idle, at Unasked, refl, (refl, refl), refl),
        refl,
        inr (
          refl,
          (
            machine [] [] (at Unasked) (at Unasked),
            drop 2 one_hit_taken,
            (idle, at Unasked, refl, (refl, refl), refl),
            refl,
            inr (
              refl,
              (
                machine [] (miss 0 ∷ []) (at Missed) (at Unasked),
                drop 3 one_hit_taken,
                (at Unasked, at Missed, refl, (refl, refl), refl),
                refl,
                inr (
                  refl,
                  (
                    machine [] (miss 0 ∷ []) (at (Built 5 5)) (at Unasked),
                    drop 4 one_hit_taken,
                    (at Missed, at (Built 5 5), refl, (5, 5, refl, refl, refl, refl), refl),
                    refl,
                    inr (
                      refl,
                      (
                        machine (entry ∷ []) (miss 0 ∷ kept 0 ∷ []) (at (There 5)) (at Unasked),
                        drop 5 one_hit_taken,
                        (at (Built 5 5), at (There 5), refl, (5, 5, refl, refl, refl), refl),
                        refl,
                        inr (
                          refl,
                          (
                            machine (entry ∷ []) (miss 0 ∷ kept 0 ∷ hit 1 ∷ []) (at (There 5)) (at (There 5)),
                            drop 6
                                one_hit_taken,
                            (at Unasked, at (There 5), refl, (refl, refl), refl),
                            refl,
                            inl (
                              refl,
                              inl (
                                refl,
                                inr (
                                  refl,
                                  (
                                    machine (entry ∷ []) (miss 0 ∷ kept 0 ∷ hit 1 ∷ []) (at (There 5)) answered,
                                    drop 7
                                        one_hit_taken,
                                    (at (There 5), answered, refl, (refl, refl), refl),
                                    refl,
                                    inr (
                                      refl,
                                      (
                                        machine (entry ∷ []) (miss 0 ∷ kept 0 ∷ hit 1 ∷ []) answered answered,
                                        drop 8 one_hit_taken,
                                        (at (There 5), answered, refl, (refl, refl), refl),
                                        refl,
                                        (refl, refl),
                                      ),
                                    ),
                                  ),
                                ),
                              ),
                            ),
                          ),
                        ),
                      ),
                    ),
                  ),
                ),
              ),
            ),
          ),
        ),
      ),
    )

-- ---- what is not possible
-- of a client that there isn't
no_client : is_possible tasks (first_machine 2 10 0) (event 2 Command) ≡ false
no_client = refl

-- between commands, or with no command left
nothing_to_reply : is_possible tasks (first_machine 2 10 0) (event 0 Reply) ≡ false
nothing_to_reply = refl

nothing_to_probe : is_possible tasks (first_machine 2 10 0) (event 0 (Probe 0)) ≡ false
nothing_to_probe = refl

no_command_left : is_possible tasks (machine [] [] answered idle) (event 0 Command) ≡ false
no_command_left = refl

-- at a command already, of a node that there isn't, or with a node that isn't there yet
at_a_command : is_possible tasks (machine [] [] (at Unasked) idle) (event 0 Command) ≡ false
at_a_command = refl

no_node : is_possible tasks (machine [] [] (at Unasked) idle) (event 0 (Probe 1)) ≡ false
no_node = refl

not_probed_yet : is_possible tasks (machine [] [] (at Unasked) idle) (event 0 (Build 0)) ≡ false
not_probed_yet = refl

not_built_yet : is_possible tasks (machine [] [] (at Missed) idle) (event 0 (Fill 0)) ≡ false
not_built_yet = refl

probed_already : is_possible tasks (machine [] [] (at Missed) idle) (event 0 (Probe 0)) ≡ false
probed_already = refl

not_there_yet : is_possible tasks (machine [] [] (at (Built 5 5)) idle) (event 0 Reply) ≡ false
not_there_yet = refl

-- ---- a fill that is too heavy is noted, and its node is there all the same
abbrev without_budget : List (JournalRecord ℕ) → ClientProgress ℕ ℕ → Machine ℕ ℕ ℕ
without_budget journal first = record {
  memo = record { entries = []; dropped = []; budget = 4; share = 0; journal = journal; spare = 0 };
  parts = first ∷ [];
}

heavy_is_there : TwoStep (without_budget [] (at (Built 5 5))) (event 0 (Fill 0))
    (without_budget (journal_record 0 7 (FillAnswer 5 false 0) ∷ []) (at (There 5)))
heavy_is_there = (at (Built 5 5), at (There 5), refl, (5, 5, refl, refl, refl), refl)
