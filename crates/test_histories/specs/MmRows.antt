-- Histories of the memory mapping service. Its functions: 1 mman_get_page, 2 mman_alias_page, 3 mman_release_page,
-- 4 mman_find.
use Rattle.std.specs.Prelude.{List, [], ◌∷◌}
use Rattle.sg_facts.specs.sg_base.declared.value.Value.TheVariants.{Word}
use Rattle.sg_facts.specs.sg_base.declared.reply.Code.TheVariants.{NoDesc, NoParent, Occupied, NotFound}
use Rattle.sg_facts.specs.declared.entry.Entry.{Entry}
use Rattle.test_histories.specs.Written.{call_of, ok, ok_at, refused, entry}

-- a page is at an address already
abbrev pub occupied : List Entry
occupied =
    entry (call_of 1 1 1 0 (Word 4096 ∷ [])) (ok_at 1)
    ∷ entry (call_of 1 2 1 0 (Word 4096 ∷ [])) (refused Occupied)
    ∷ []

-- a page goes, and the two that were made from it go with it: they are neither found nor released
abbrev pub subtree_goes : List Entry
subtree_goes =
    entry (call_of 1 1 1 0 (Word 4096 ∷ [])) (ok_at 1)
    ∷ entry (call_of 1 2 2 1 (Word 1 ∷ Word 8192 ∷ [])) (ok_at 2)
    ∷ entry (call_of 1 3 2 1 (Word 1 ∷ Word 12288 ∷ [])) (ok_at 3)
    ∷ entry (call_of 1 4 3 1 []) ok
    ∷ entry (call_of 2 1 4 0 (Word 1 ∷ Word 8192 ∷ [])) (refused NotFound)
    ∷ entry (call_of 1 5 3 2 []) (refused NoDesc)
    ∷ entry (call_of 1 6 3 3 []) (refused NoDesc)
    ∷ []

-- a page that there is none of is no parent, and none is found
abbrev pub page_refusals : List Entry
page_refusals =
    entry (call_of 1 1 2 0 (Word 1 ∷ Word 4096 ∷ [])) (refused NoParent)
    ∷ entry (call_of 1 2 4 0 (Word 1 ∷ Word 0 ∷ [])) (refused NotFound)
    ∷ []

-- client 2 makes a page of its own from that of client 1, and releases it
abbrev pub alias_released : List Entry
alias_released =
    entry (call_of 1 1 1 0 (Word 4096 ∷ [])) (ok_at 1)
    ∷ entry (call_of 2 1 2 1 (Word 2 ∷ Word 8192 ∷ [])) (ok_at 2)
    ∷ entry (call_of 2 2 3 2 []) ok
    ∷ []
