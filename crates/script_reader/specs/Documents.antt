-- A document that was read, as the definitions of the history read it.
use Rattle.kube_objects.specs.Document.{Doc}
use Rattle.script_reader.specs.declared.document.Document.{Document}

abbrev pub doc_of : Document → Doc
doc_of d = record {
  settings = d.settings;
  controllers = d.controllers;
  kubelets = d.kubelets;
  waits = d.waits;
  objects = d.objects.items;
  events = d.events;
}
