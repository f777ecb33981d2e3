-- Scenes with one key are alike, and a key stays one while the tables grow.
use Rattle.jc_explore.proofs.Common.{ℕ, List, sym, ap, ◌∙◌, subst, All, essence_of_world, Seen, SnapshotsTell, SnapshotsStay, IsSnapshot, GrowsTo, StateKey, KnownState, Program, ScenesAlike, IsKeyOf, HaveOneKey, KeyValue, SceneState, IsKnownBy}

pub tell-alike : SnapshotsTell → (seen : Seen) (a b : StateKey) (s t : SceneState) → HaveOneKey a b → IsKeyOf seen a s → IsKeyOf seen b t → ScenesAlike s t
tell-alike tell seen a b s t one x y =
    record {
      world = tell seen (essence_of_world s.world) (essence_of_world t.world) b.snapshot
          (subst (λ (words : List ℕ). IsSnapshot (essence_of_world s.world) seen words) (ap (λ (v : KeyValue). v.snapshot) one) x.world) y.world;
      positions = sym x.positions ∙ ap (λ (v : KeyValue). v.positions) one ∙ y.positions;
      replies = sym x.replies ∙ ap (λ (v : KeyValue). v.replies) one ∙ y.replies;
    }

key-stays : SnapshotsStay → (old new : Seen) (key : StateKey) (s : SceneState) → GrowsTo old new → IsKeyOf old key s → IsKeyOf new key s
key-stays stay old new key s grows h =
    record { world = stay old new (essence_of_world s.world) key.snapshot grows h.world; positions = h.positions; replies = h.replies }

known_by-stays : SnapshotsStay → (p : Program) (old new : Seen) (k : KnownState) → GrowsTo old new → IsKnownBy p old k → IsKnownBy p new k
known_by-stays stay p old new k grows h =
    record { scene = h.scene; plays = h.plays; key = key-stays stay old new k.key h.scene grows h.key; sessions = h.sessions }

pub known-stay : SnapshotsStay → (p : Program) (old new : Seen) (known : List KnownState) → GrowsTo old new → All (IsKnownBy p old) known → All (IsKnownBy p new) known
known-stay stay p old new known grows all k d h = known_by-stays stay p old new _ grows (all k d h)
