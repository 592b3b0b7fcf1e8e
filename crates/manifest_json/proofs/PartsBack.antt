-- Taints, tolerations and conditions that are written are read back.
use Rattle.std.proofs.Common.{◌≡◌, ℕ, ◌==◌, true, false, cond, List, [], ◌∷◌, ◌++◌, length, codes, Option, Some, None, option_and_then, Ok, refl, ap, ◌∙◌}
use Rattle.std.specs.List.{list_any}
use Rattle.std.specs.Option.{option_map}
use Rattle.serde_json.specs.Data.{Data, object, string, number}
use Rattle.serde_json.specs.Find.{as_str, of_integer}
use Rattle.kube_base.specs.Names.{EachOnce}
use Rattle.kube_objects.specs.declared.node.Effect.{Effect}
use Rattle.kube_objects.specs.declared.node.Effect.TheVariants as effects
use Rattle.kube_objects.specs.declared.node.Ready.{Ready}
use Rattle.kube_objects.specs.declared.node.ReadyStatus.{ReadyStatus}
use Rattle.kube_objects.specs.declared.node.ReadyStatus.TheVariants as statuses
use Rattle.kube_objects.specs.declared.node.Taint.{Taint}
use Rattle.kube_objects.specs.declared.pod.Operator.{Operator}
use Rattle.kube_objects.specs.declared.pod.Operator.TheVariants as operators
use Rattle.kube_objects.specs.declared.pod.Toleration.{Toleration}
use Rattle.manifest_json.specs.declared.codes.TheConstants.{BAD_TAINT_KEY, BAD_TOLERATION, DUPLICATE_TAINT, WRONG_JSON}
use Rattle.manifest_json.specs.Faults.{◌>>=◌, refuse}
use Rattle.manifest_json.specs.Fields.{Texts, unless_null, field, object_at, time_at, signed_at, numbered}
use Rattle.manifest_json.specs.Walk.{effect_at, whole_second, same_taint, taint_text_at, taint_key_at, text_number_at, unless_earlier, taint_at, status_at, ready_at, is_text, condition_at, operator_at, any_effect_at, is_lawful, if_lawful, toleration_at}
use Rattle.manifest_json.specs.Written.{Field, members_of, text, filled_text, text_of, in_seconds, effect_text, taint_of, status_text, condition_of, operator_text, toleration_of}
use Rattle.manifest_json.specs.Readable.{IsHeld, IsFilled, IsReadableTaint, IsReadableCondition, IsReadableToleration}
use Rattle.manifest_json.proofs.FieldsBack.{get-lookup, field-is, text-there, text-back, numbered-back, seconds-back, whole-back, signed-back}

pub text_number-back : (names : Texts) (once : EachOnce names) (path key : List ℕ) (n : ℕ) → IsHeld names n → text_number_at names path key (unless_null (filled_text (text_of names n))) ≡ Ok (n, names)
unfolding text_number_at
text_number-back names once path key n h = ap (λ r. r >>= λ text. numbered names text) (text-back WRONG_JSON (path ++ key) (text_of names n)) ∙ numbered-back names once n h

taint_key-back : (names : Texts) (once : EachOnce names) (path : List ℕ) (d : Data) (n : ℕ) → field (codes "key") d ≡ Some (string (text_of names n)) → IsHeld names n → IsFilled names n → taint_key_at names path d ≡ Ok (n, names)
unfolding taint_key_at
taint_key-back names once path d n is h filled =
    ap (λ o. taint_text_at (path ++ codes "/key") o >>= λ text. cond (length text == 0) (refuse BAD_TAINT_KEY (path ++ codes "/key")) (numbered names text)) is
    ∙ ap (λ b. cond b (refuse BAD_TAINT_KEY (path ++ codes "/key")) (numbered names (text_of names n))) filled
    ∙ numbered-back names once n h

taint-parts : (names : Texts) (path : List ℕ) (earlier : List Taint) (d : Data) (t : Taint) → object_at path d ≡ Ok d → taint_key_at names path d ≡ Ok (t.key, names)
    → text_number_at names path (codes "/value") (field (codes "value") d) ≡ Ok (t.value, names) → effect_at (path ++ codes "/effect") (field (codes "effect") d) ≡ Ok t.effect
    → time_at (path ++ codes "/timeAdded") (field (codes "timeAdded") d) ≡ Ok t.added → whole_second t.added ≡ t.added → list_any (same_taint t) earlier ≡ false → taint_at names path earlier d ≡ Ok (t, names)
unfolding taint_at
taint-parts names path earlier d t o k v e a w n =
    ap (λ answer. answer >>= λ OBJ. taint_key_at names path OBJ >>= λ KEY. text_number_at KEY.1 path (codes "/value") (field (codes "value") OBJ) >>= λ VALUE. effect_at (path ++ codes "/effect") (field (codes "effect") OBJ) >>= λ EFFECT. time_at (path ++ codes "/timeAdded") (field (codes "timeAdded") OBJ) >>= λ ADDED. unless_earlier earlier path (record { key = KEY.0; value = VALUE.0; effect = EFFECT; added = whole_second ADDED }) VALUE.1) (o)
    ∙ ap (λ answer. answer >>= λ KEY. text_number_at KEY.1 path (codes "/value") (field (codes "value") d) >>= λ VALUE. effect_at (path ++ codes "/effect") (field (codes "effect") d) >>= λ EFFECT. time_at (path ++ codes "/timeAdded") (field (codes "timeAdded") d) >>= λ ADDED. unless_earlier earlier path (record { key = KEY.0; value = VALUE.0; effect = EFFECT; added = whole_second ADDED }) VALUE.1) (k)
    ∙ ap (λ answer. answer >>= λ VALUE. effect_at (path ++ codes "/effect") (field (codes "effect") d) >>= λ EFFECT. time_at (path ++ codes "/timeAdded") (field (codes "timeAdded") d) >>= λ ADDED. unless_earlier earlier path (record { key = t.key; value = VALUE.0; effect = EFFECT; added = whole_second ADDED }) VALUE.1) (v)
    ∙ ap (λ answer. answer >>= λ EFFECT. time_at (path ++ codes "/timeAdded") (field (codes "timeAdded") d) >>= λ ADDED. unless_earlier earlier path (record { key = t.key; value = t.value; effect = EFFECT; added = whole_second ADDED }) names) (e)
    ∙ ap (λ answer. answer >>= λ ADDED. unless_earlier earlier path (record { key = t.key; value = t.value; effect = t.effect; added = whole_second ADDED }) names) (a)
    ∙ ap (λ at. unless_earlier earlier path (record t { added = at }) names) w
    ∙ ap (λ b. cond b (refuse DUPLICATE_TAINT path) (Ok (t, names))) n

effect-back : (path : List ℕ) (e : Effect) → effect_at path (Some (string (effect_text e))) ≡ Ok e
effect-back path effects.NoSchedule = refl
effect-back path effects.PreferNoSchedule = refl
effect-back path effects.NoExecute = refl

pub taint-back : (names : Texts) (once : EachOnce names) (path : List ℕ) (earlier : List Taint) (t : Taint) → IsReadableTaint names t → list_any (same_taint t) earlier ≡ false → taint_at names path earlier (taint_of names t) ≡ Ok (t, names)
unfolding taint_of
taint-back names once path earlier t h new =
    let fs : List Field = (codes "effect", text (effect_text t.effect)) ∷ (codes "key", filled_text (text_of names t.key)) ∷ (codes "timeAdded", in_seconds t.added) ∷ (codes "value", filled_text (text_of names t.value)) ∷ [] in
    taint-parts names path earlier (object (members_of fs)) t refl
    (taint_key-back names once path (object (members_of fs)) t.key (field-is (codes "key") fs refl ∙ text-there (text_of names t.key) h.filled) h.key h.filled)
    (ap (text_number_at names path (codes "/value")) (field-is (codes "value") fs refl) ∙ text_number-back names once path (codes "/value") t.value h.value)
    (ap (effect_at (path ++ codes "/effect")) (field-is (codes "effect") fs refl) ∙ effect-back (path ++ codes "/effect") t.effect)
    (ap (time_at (path ++ codes "/timeAdded")) (field-is (codes "timeAdded") fs refl) ∙ seconds-back (path ++ codes "/timeAdded") t.added h.added)
    (whole-back t.added h.added) new

toleration-parts : (names : Texts) (path : List ℕ) (d : Data) (t : Toleration) → object_at path d ≡ Ok d
    → text_number_at names path (codes "/key") (field (codes "key") d) ≡ Ok (t.key, names) → text_number_at names path (codes "/value") (field (codes "value") d) ≡ Ok (t.value, names)
    → operator_at (path ++ codes "/operator") (field (codes "operator") d) ≡ Ok t.operator → any_effect_at (path ++ codes "/effect") (field (codes "effect") d) ≡ Ok t.effect
    → signed_at (path ++ codes "/tolerationSeconds") (field (codes "tolerationSeconds") d) ≡ Ok t.seconds → is_lawful t ≡ true → toleration_at names path d ≡ Ok (t, names)
unfolding toleration_at
toleration-parts names path d t o k v p e s l =
    ap (λ answer. answer >>= λ OBJ. text_number_at names path (codes "/key") (field (codes "key") OBJ) >>= λ KEY. text_number_at KEY.1 path (codes "/value") (field (codes "value") OBJ) >>= λ VALUE. operator_at (path ++ codes "/operator") (field (codes "operator") OBJ) >>= λ OPERATOR. any_effect_at (path ++ codes "/effect") (field (codes "effect") OBJ) >>= λ EFFECT. signed_at (path ++ codes "/tolerationSeconds") (field (codes "tolerationSeconds") OBJ) >>= λ SECONDS. if_lawful path (record { key = KEY.0; operator = OPERATOR; value = VALUE.0; effect = EFFECT; seconds = SECONDS }) VALUE.1) (o)
    ∙ ap (λ answer. answer >>= λ KEY. text_number_at KEY.1 path (codes "/value") (field (codes "value") d) >>= λ VALUE. operator_at (path ++ codes "/operator") (field (codes "operator") d) >>= λ OPERATOR. any_effect_at (path ++ codes "/effect") (field (codes "effect") d) >>= λ EFFECT. signed_at (path ++ codes "/tolerationSeconds") (field (codes "tolerationSeconds") d) >>= λ SECONDS. if_lawful path (record { key = KEY.0; operator = OPERATOR; value = VALUE.0; effect = EFFECT; seconds = SECONDS }) VALUE.1) (k)
    ∙ ap (λ answer. answer >>= λ VALUE. operator_at (path ++ codes "/operator") (field (codes "operator") d) >>= λ OPERATOR. any_effect_at (path ++ codes "/effect") (field (codes "effect") d) >>= λ EFFECT. signed_at (path ++ codes "/tolerationSeconds") (field (codes "tolerationSeconds") d) >>= λ SECONDS. if_lawful path (record { key = t.key; operator = OPERATOR; value = VALUE.0; effect = EFFECT; seconds = SECONDS }) VALUE.1) (v)
    ∙ ap (λ answer. answer >>= λ OPERATOR. any_effect_at (path ++ codes "/effect") (field (codes "effect") d) >>= λ EFFECT. signed_at (path ++ codes "/tolerationSeconds") (field (codes "tolerationSeconds") d) >>= λ SECONDS. if_lawful path (record { key = t.key; operator = OPERATOR; value = t.value; effect = EFFECT; seconds = SECONDS }) names) (p)
    ∙ ap (λ answer. answer >>= λ EFFECT. signed_at (path ++ codes "/tolerationSeconds") (field (codes "tolerationSeconds") d) >>= λ SECONDS. if_lawful path (record { key = t.key; operator = t.operator; value = t.value; effect = EFFECT; seconds = SECONDS }) names) (e)
    ∙ ap (λ answer. answer >>= λ SECONDS. if_lawful path (record { key = t.key; operator = t.operator; value = t.value; effect = t.effect; seconds = SECONDS }) names) (s)
    ∙ ap (λ b. cond b (Ok (t, names)) (refuse BAD_TOLERATION path)) l

operator-back : (path : List ℕ) (o : Operator) → operator_at path (Some (string (operator_text o))) ≡ Ok o
unfolding operator_at
operator-back path operators.Exists = refl
operator-back path operators.Equal = refl

any_effect-back : (path : List ℕ) (e : Option Effect) → any_effect_at path (unless_null (option_map (λ effect. string (effect_text effect)) e)) ≡ Ok e
unfolding any_effect_at
any_effect-back path None = refl
any_effect-back path (Some effects.NoSchedule) = refl
any_effect-back path (Some effects.PreferNoSchedule) = refl
any_effect-back path (Some effects.NoExecute) = refl

pub toleration-back : (names : Texts) (once : EachOnce names) (path : List ℕ) (t : Toleration) → IsReadableToleration names t → toleration_at names path (toleration_of names t) ≡ Ok (t, names)
unfolding toleration_of
toleration-back names once path t h =
    let fs : List Field = (codes "effect", option_map (λ effect. string (effect_text effect)) t.effect) ∷ (codes "key", filled_text (text_of names t.key)) ∷ (codes "operator", text (operator_text t.operator)) ∷ (codes "tolerationSeconds", option_map (λ seconds. number (of_integer seconds)) t.seconds) ∷ (codes "value", filled_text (text_of names t.value)) ∷ [] in
    toleration-parts names path (object (members_of fs)) t refl
    (ap (text_number_at names path (codes "/key")) (field-is (codes "key") fs refl) ∙ text_number-back names once path (codes "/key") t.key h.key)
    (ap (text_number_at names path (codes "/value")) (field-is (codes "value") fs refl) ∙ text_number-back names once path (codes "/value") t.value h.value)
    (ap (operator_at (path ++ codes "/operator")) (field-is (codes "operator") fs refl) ∙ operator-back (path ++ codes "/operator") t.operator)
    (ap (any_effect_at (path ++ codes "/effect")) (field-is (codes "effect") fs refl) ∙ any_effect-back (path ++ codes "/effect") t.effect)
    (ap (signed_at (path ++ codes "/tolerationSeconds")) (field-is (codes "tolerationSeconds") fs refl) ∙ signed-back (path ++ codes "/tolerationSeconds") t.seconds h.seconds)
    h.lawful

ready-parts : (names : Texts) (path : List ℕ) (d : Data) (r : Ready) → status_at (path ++ codes "/status") (field (codes "status") d) ≡ Ok r.status
    → text_number_at names path (codes "/reason") (field (codes "reason") d) ≡ Ok (r.reason, names) → time_at (path ++ codes "/lastHeartbeatTime") (field (codes "lastHeartbeatTime") d) ≡ Ok r.heartbeat
    → time_at (path ++ codes "/lastTransitionTime") (field (codes "lastTransitionTime") d) ≡ Ok r.transition → whole_second r.heartbeat ≡ r.heartbeat → whole_second r.transition ≡ r.transition → ready_at names path d ≡ Ok (r, names)
unfolding ready_at
ready-parts names path d r s n b t hb ht =
    ap (λ answer. answer >>= λ STATUS. text_number_at names path (codes "/reason") (field (codes "reason") d) >>= λ REASON. time_at (path ++ codes "/lastHeartbeatTime") (field (codes "lastHeartbeatTime") d) >>= λ HEART. time_at (path ++ codes "/lastTransitionTime") (field (codes "lastTransitionTime") d) >>= λ TRANS. Ok (record { status = STATUS; reason = REASON.0; heartbeat = whole_second HEART; transition = whole_second TRANS }, REASON.1)) (s)
    ∙ ap (λ answer. answer >>= λ REASON. time_at (path ++ codes "/lastHeartbeatTime") (field (codes "lastHeartbeatTime") d) >>= λ HEART. time_at (path ++ codes "/lastTransitionTime") (field (codes "lastTransitionTime") d) >>= λ TRANS. Ok (record { status = r.status; reason = REASON.0; heartbeat = whole_second HEART; transition = whole_second TRANS }, REASON.1)) (n)
    ∙ ap (λ answer. answer >>= λ HEART. time_at (path ++ codes "/lastTransitionTime") (field (codes "lastTransitionTime") d) >>= λ TRANS. Ok (record { status = r.status; reason = r.reason; heartbeat = whole_second HEART; transition = whole_second TRANS }, names)) (b)
    ∙ ap (λ answer. answer >>= λ TRANS. Ok (record { status = r.status; reason = r.reason; heartbeat = whole_second r.heartbeat; transition = whole_second TRANS }, names)) (t)
    ∙ ap (λ at. Ok (record { status = r.status; reason = r.reason; heartbeat = at; transition = whole_second r.transition }, names)) hb
    ∙ ap (λ at. Ok (record r { transition = at }, names)) ht

status-back : (path : List ℕ) (s : ReadyStatus) → status_at path (Some (string (status_text s))) ≡ Ok s
status-back path statuses.True = refl
status-back path statuses.False = refl
status-back path statuses.Unknown = refl

pub condition-back : (names : Texts) (once : EachOnce names) (path : List ℕ) (r : Ready) → IsReadableCondition names r → condition_at names path None (condition_of names r) ≡ Ok (Some r, names)
unfolding condition_at condition_of
condition-back names once path r h =
    let fs : List Field = (codes "lastHeartbeatTime", in_seconds r.heartbeat) ∷ (codes "lastTransitionTime", in_seconds r.transition) ∷ (codes "reason", filled_text (text_of names r.reason)) ∷ (codes "status", text (status_text r.status)) ∷ (codes "type", text (codes "Ready")) ∷ [] in
    let ready = ready-parts names path (object (members_of fs)) r
    (ap (status_at (path ++ codes "/status")) (field-is (codes "status") fs refl) ∙ status-back (path ++ codes "/status") r.status)
    (ap (text_number_at names path (codes "/reason")) (field-is (codes "reason") fs refl) ∙ text_number-back names once path (codes "/reason") r.reason h.reason)
    (ap (time_at (path ++ codes "/lastHeartbeatTime")) (field-is (codes "lastHeartbeatTime") fs refl) ∙ seconds-back (path ++ codes "/lastHeartbeatTime") r.heartbeat h.heartbeat)
    (ap (time_at (path ++ codes "/lastTransitionTime")) (field-is (codes "lastTransitionTime") fs refl) ∙ seconds-back (path ++ codes "/lastTransitionTime") r.transition h.transition)
    (whole-back r.heartbeat h.heartbeat) (whole-back r.transition h.transition) in
    ap (λ o. cond (is_text (codes "Ready") (option_and_then as_str o)) (ready_at names path (object (members_of fs)) >>= λ found. Ok (Some found.0, found.1)) (Ok (None, names))) (get-lookup (codes "type") fs refl)
    ∙ ap (λ r. r >>= λ found. Ok (Some found.0, found.1)) ready
