use Rattle.jc_explore.proofs.Common.{◌≡◌, List, refl, sym, subst, All, AllPairs, All-push, all_pairs_push, KnownState, scene_state, HaveOneKey, HaveSchedule, IsKnown, IsKnownBy}
use Rattle.jc_explore.proofs.Keys.{known-stay}
use Rattle.jc_explore.proofs.Searching.{known-before, known-last, grows-refl, places-push, prints-push}
use Rattle.jc_explore.proofs.Shortest.{adds-none, adds-one}
use Rattle.jc_explore.proofs.known.note_state.Goals as goal

pub returns-then-has : goal.returns-then-has
returns-then-has c =
    let p = c.args.program.now in
    let known = c.args.known.now.list.items in
    let seen = c.of.new.seen in
    let stay = known-stay c.snapshots_stay.ensures p c.args.known.now.seen seen known c.in_ok-key.ensures.grows c.requires.known.each in
    record {
      known = record { each = stay; apart = c.requires.known.apart; prints = c.requires.known.prints; places = c.requires.known.places };
      kept = grows-refl known;
      added = adds-none (λ (k : KnownState). k.schedule.items ≡ c.args.schedule.items) known;
      there = known-before c.snapshots_tell.ensures p seen known c.in_ok-key.key (scene_state c.args.scene.now) stay c.in_ok-key.ensures.key (c.has.ensures.there c.if-has.true);
    }

pub returns : goal.returns
returns c =
    let p = c.args.program.now in
    let known = c.args.known.now.list.items in
    let seen = c.of.new.seen in
    let stay = known-stay c.snapshots_stay.ensures p c.args.known.now.seen seen known c.in_ok-key.ensures.grows c.requires.known.each in
    let one : KnownState = record { schedule = c.args.schedule; key = c.in_ok-key.key } in
    let by : IsKnownBy p seen one = record { scene = scene_state c.args.scene.now; plays = c.requires.plays; key = c.in_ok-key.ensures.key; sessions = c.requires.sessions } in
    record {
      known = record {
        each = subst (All (IsKnownBy p seen)) (sym c.in_ok-push-2.ensures.items) (All-push (IsKnownBy p seen) known one stay by);
        apart = subst (AllPairs (λ (a b : KnownState). HaveOneKey a.key b.key → ⊥)) (sym c.in_ok-push-2.ensures.items)
            (all_pairs_push (λ (a b : KnownState). HaveOneKey a.key b.key → ⊥) known one c.requires.known.apart (c.has.ensures.none c.if-has.false));
        prints = prints-push known _ one c.args.known.now.fingerprints.items _ c.fingerprint-print.result c.requires.known.prints c.in_ok-push.ensures.items c.fingerprint-print.ensures c.in_ok-push-2.ensures.items;
        places = places-push c.args.known.now.places c.note.new.self c.args.known.now.fingerprints.items _ c.fingerprint-print.result c.requires.known.places c.in_ok-note.ensures.others c.in_ok-note.ensures.there c.in_ok-push.ensures.items;
      };
      kept = (_, c.in_ok-push-2.ensures.items);
      added = subst (λ (ks : List KnownState). HaveSchedule c.args.schedule.items known ks) (sym c.in_ok-push-2.ensures.items) (adds-one (λ (k : KnownState). k.schedule.items ≡ c.args.schedule.items) known one refl);
      there = subst (λ (ks : List KnownState). IsKnown p ks (scene_state c.args.scene.now)) (sym c.in_ok-push-2.ensures.items)
          (known-last p known one (scene_state c.args.scene.now) c.requires.plays);
    }
