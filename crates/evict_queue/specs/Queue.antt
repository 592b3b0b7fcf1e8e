-- What an eviction queue keeps: a due for each pod. What orders the dues is not seen (profile).
use Rattle.kube_objects.specs.declared.key.Key.{Key}
use Rattle.kube_objects.specs.declared.pod.Due.{Due}
use Rattle.evict_queue.specs.Held.{due_of}
use Rattle.evict_queue.specs.declared.queue.EvictQueue.{EvictQueue}

-- the due of a pod
abbrev pub due_in : EvictQueue → Key → Due
due_in queue key = due_of queue.dues key
