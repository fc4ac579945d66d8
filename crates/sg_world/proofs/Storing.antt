-- What stubs and storage keep after the commit of an engine is the object of the longer history.
use Rattle.std.proofs.Common.{List, None, Option, Some, [], ap, inl, inr, refl, subst, sym, ℕ, ◌++◌, ◌∙◌, ◌∷◌, ◌≡◌, ◌⊎◌, if◌then◌else◌, true, false}
use Rattle.std.specs.Prelude.{◌≢◌}
use Rattle.std.specs.Str.{bytes_eq}
use Rattle.sg_facts.specs.sg_base.declared.call.Call.{Call}
use Rattle.sg_facts.specs.sg_base.declared.reply.Reply.{Reply}
use Rattle.sg_facts.specs.declared.entry.Entry.{Entry}
use Rattle.sg_facts.specs.declared.outcome.Patch.{Patch}
use Rattle.sg_facts.specs.Facts.{Facts}
use Rattle.sg_facts.specs.Object.{after, empty_object, file_at, object_of, over, patch_of}
use Rattle.sg_facts.specs.Inside.Rows.{given_after, patched, track}
use Rattle.sg_world_laws.proofs.sg_recovery_laws.Objects.Files.{set_other, set_own}
use Rattle.sg_replay.specs.Engined.{Engined}
use Rattle.sg_replay.specs.sg_store.Spans.{patched_at}
use Rattle.sg_replay.specs.sg_store.Stored.{bytes_of}
use Rattle.sg_facts.proofs.Replaying.Files.{told}
use Rattle.sg_world.specs.Worlded.{StoresObject}
use Rattle.sg_world_laws.proofs.Drawn.{object_after}

-- the file of a path after a patch, which may be of another
pub patched_file : (files : List (List ℕ × List ℕ)) (patch : Option Patch) (path : List ℕ) → file_at (patched files patch) path ≡ patched_at patch path (file_at files path)
patched_file files None path = refl
patched_file files (Some p) path = at (told path p.key)
  where
    at : ((bytes_eq path p.key ≡ true) × (path ≡ p.key)) ⊎ ((bytes_eq path p.key ≡ false) × (path ≢ p.key)) → file_at (patched files (Some p)) path ≡ patched_at (Some p) path (file_at files path)
    at (inl same) =
        ap (file_at (patched files (Some p))) same.1
        ∙ set_own files p.key (over (file_at files p.key) p.from p.bytes)
        ∙ ap (λ k. over (file_at files k) p.from p.bytes) (sym same.1)
        ∙ sym (ap (λ q. if q then over (file_at files path) p.from p.bytes else file_at files path) same.0)
    at (inr apart) =
        set_other files p.key (over (file_at files p.key) p.from p.bytes) path (λ same. apart.1 (sym same))
        ∙ sym (ap (λ q. if q then over (file_at files path) p.from p.bytes else file_at files path) apart.0)

-- an entry is committed, with the patch that it wrote
pub stored_on : (facts : Facts) (e new : Engined) (history : List Entry) (call : Call) (reply : Reply) (patch : Option Patch) → StoresObject facts e history
    → new.tracked.rows ≡ track facts e.tracked.rows call reply → new.tracked.given ≡ given_after facts e.tracked.given call reply → ((key : List ℕ) → bytes_of new.stored key ≡ patched_at patch key (bytes_of e.stored key))
    → patch ≡ patch_of facts (object_of facts history) call reply → StoresObject facts new (history ++ record { call = call; reply = reply } ∷ [])
stored_on facts e new history call reply patch stores rows given files its =
    subst (λ o. (new.tracked.rows ≡ o.rows) → (new.tracked.given ≡ o.given) → ((path : List ℕ) → bytes_of new.stored path ≡ file_at o.files path) → StoresObject facts new (history ++ entry ∷ [])) now
    (λ r g f. record { rows = r; given = g; files = f })
    (rows ∙ ap (λ rs. track facts rs call reply) stores.rows)
    (given ∙ ap (λ n. given_after facts n call reply) stores.given)
    (λ path. files path ∙ ap (patched_at patch path) (stores.files path) ∙ ap (λ p. patched_at p path (file_at (object_of facts history).files path)) its
    ∙ sym (patched_file (object_of facts history).files (patch_of facts (object_of facts history) call reply) path))
  where
    entry : Entry
    entry = record { call = call; reply = reply }

    now : object_of facts (history ++ (record { call = call; reply = reply }) ∷ []) ≡ after facts (object_of facts history) call reply
    now = object_after facts empty_object history ((record { call = call; reply = reply }) ∷ [])
