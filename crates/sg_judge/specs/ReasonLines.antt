-- Why a described service can't be recovered, in words.
use Rattle.std.specs.Prelude.{ℕ, suc, ◌==◌, if◌then◌else◌, List, [], ◌∷◌, ◌++◌, codes, slice_get}
use Rattle.std.specs.Fmt.{decimal}
use Rattle.std.specs.List.{concat, flat_map}
use Rattle.std.specs.Option.{option_map_or}
use Rattle.sg_explain.specs.sg_facts.Facts.{Facts, fun_at}
use Rattle.sg_explain.specs.sg_facts.Words.{line_end}
use Rattle.sg_own.specs.sg_described.declared.bounds.Bounds.{Bounds}
use Rattle.sg_own.specs.sg_safe.declared.reason.FailingCall.{FailingCall}
use Rattle.sg_own.specs.sg_safe.declared.reason.KnownField.{KnownField}
use Rattle.sg_own.specs.sg_safe.declared.reason.Obstacle.{Obstacle}
use Rattle.sg_own.specs.sg_safe.declared.reason.Obstacle.TheVariants.{ByRule, NoClient, PastMost}
use Rattle.sg_own.specs.sg_safe.declared.reason.Unsafe.{Unsafe}
use Rattle.sg_own.specs.sg_safe.declared.reason.Unsafe.TheVariants.{CountsFar, Recounts, Overtaken, Fails}

-- the name of the field of a number
abbrev pub field_name : Facts → ℕ → List ℕ
field_name facts x = option_map_or (λ f. f.name) (slice_get facts.fields x) []

-- the numbers that a field can have
abbrev pub bounds_words : Bounds → List ℕ
bounds_words b = if b.least == b.most then codes " " ++ decimal b.least else concat (codes " " ∷ decimal b.least ∷ codes " to " ∷ decimal b.most ∷ [])

-- what is known of fields, numbered from a number on
abbrev pub fields_words : Facts → ℕ → List KnownField → List ℕ
fields_words facts x [] = []
fields_words facts x (f ∷ fields) = concat (codes "; " ∷ field_name facts x ∷ bounds_words f.bounds ∷ []) ++ fields_words facts (suc x) fields

-- the calls of a walk, each after a space; that there are none
abbrev pub walk_words : Facts → List ℕ → List ℕ
walk_words facts [] = codes " no call"
walk_words facts (fun ∷ walk) = flat_map (λ f. codes " " ++ (fun_at facts.funs f).name) (fun ∷ walk)

-- the field that a replayed call fails by
abbrev pub obstacle_words : Facts → Obstacle → List ℕ
obstacle_words facts (ByRule rule) = []
obstacle_words facts (NoClient x) = concat (codes "; the client would be " ∷ field_name facts x ∷ [])
obstacle_words facts (PastMost x) = concat (codes "; the field is " ∷ field_name facts x ∷ [])

-- where a replayed call may fail: after which calls, and with which fields
abbrev pub call_line : Facts → List ℕ → FailingCall → List ℕ
call_line facts walk call = concat (
    codes "replay of " ∷ (fun_at facts.funs call.fun).name ∷ codes " after" ∷ walk_words facts walk ∷ fields_words facts 0 call.spot.fields ∷ obstacle_words facts call.obstacle ∷ line_end ∷ [])

-- what is told besides of a reason
abbrev pub reason_line : Facts → Unsafe → List ℕ
reason_line facts (CountsFar x) = concat (codes "the field is " ∷ field_name facts x ∷ line_end ∷ [])
reason_line facts (Recounts fun x) = concat (codes "the field is " ∷ field_name facts x ∷ line_end ∷ [])
reason_line facts (Overtaken waiter rule by) = concat (codes "it may be let pass by " ∷ (fun_at facts.funs by).name ∷ line_end ∷ [])
reason_line facts (Fails walk call) = call_line facts walk call
